use Rattle.std.proofs.Common.{◌≡◌, ◌++◌, drop}
use Rattle.th_offsets.specs.Given.{bodies_from}
use Rattle.th_offsets.proofs.heads_of.add_bodies.Given as goal

abbrev pub invariant-loop-method : goal.invariant-loop-method
invariant-loop-method l = l.into.items ++ bodies_from l.class (drop l.method-index l.methods) ≡ l.fn.into.items ++ bodies_from l.class l.methods
