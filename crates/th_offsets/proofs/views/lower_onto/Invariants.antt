use Rattle.std.proofs.Common.{◌≡◌, ◌++◌, drop}
use Rattle.th_views.specs.Listed.{lowered}
use Rattle.th_offsets.proofs.views.lower_onto.Given as goal

abbrev pub invariant-loop-spot : goal.invariant-loop-spot
invariant-loop-spot l = l.into.items ++ lowered l.low (drop l.spot-index l.from) ≡ l.fn.into.items ++ lowered l.low l.from
