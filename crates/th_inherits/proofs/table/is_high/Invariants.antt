use Rattle.std.proofs.Common.{◌≡◌, drop}
use Rattle.th_inherits.specs.Tables.{is_high}
use Rattle.th_inherits.proofs.table.is_high.Given as goal

abbrev pub invariant-loop-height : goal.invariant-loop-height
invariant-loop-height l = is_high (drop l.height-index l.heights) ≡ is_high l.heights
