use Rattle.std.proofs.Common.{◌∙◌, ap, sym}
use Rattle.th_inherits.specs.Rows.{rows_of}
use Rattle.th_inherits.specs.Tables.{row_in}
use Rattle.th_inherits.proofs.Placing.{row_by_place}
use Rattle.th_inherits.proofs.places.row_at.Goals as goal

pub returns : goal.returns
returns c =
    let rows = rows_of c.args.rows.now in
    c.row_in.ensures ∙ (ap (row_in rows) (c.place_at.ensures ∙ c.requires c.args.full) ∙ sym (row_by_place rows c.args.full))
