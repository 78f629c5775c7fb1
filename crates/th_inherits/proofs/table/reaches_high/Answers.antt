use Rattle.std.proofs.Common.{◌∙◌, ap}
use Rattle.th_inherits.specs.Tables.{lists_of, list_at, is_high}
use Rattle.th_inherits.proofs.Passing.{decides}
use Rattle.th_inherits.proofs.table.reaches_high.Goals as goal

pub returns : goal.returns
returns c = λ rows a s. decides rows (lists_of c.args.table.now) c.args.places.now.entries c.args.full c.is_high.result a s (c.is_high.ensures ∙ ap is_high (c.list_at.ensures ∙ ap (list_at (lists_of c.args.table.now)) c.place_at.ensures))
