use Rattle.std.proofs.Common.{take, ap, sym, subst, add-one}
use Rattle.th_inherits.specs.declared.row.Row.{Row}
use Rattle.th_inherits.specs.Rows.{row_of, rows_of}
use Rattle.th_inherits.specs.Tables.{ArePlaces}
use Rattle.th_inherits.proofs.Placing.{take_more, take_long}
use Rattle.th_inherits.proofs.places.places_of.Goals as goal

pub loop-k-preserved : goal.loop-k-preserved
loop-k-preserved c =
    let rows = c.args.rows.now in
    let k = c.loop-k.k in
    let r = c.index-rows-k.result in
    rw add-one
    (subst (λ rs. ArePlaces rs c.note.new.places.entries) (sym (take_more row_of rows k r c.loop-k-test.true c.index-rows-k.is))
    (c.in_ok-note.ensures (take k (rows_of rows)) (row_of r) c.loop-k.invariant (take_long row_of rows k c.loop-k-test.true) (ap (λ (y : Row). y.full) c.index-rows-k.is)))
