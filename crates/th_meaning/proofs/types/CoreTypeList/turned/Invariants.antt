use Rattle.std.proofs.Common.{◌≡◌}
use Rattle.th_meaning.specs.View.{types_of}
use Rattle.th_meaning.specs.Onto.{types_onto}
use Rattle.th_meaning.proofs.types.CoreTypeList.turned.Given as goal

abbrev pub invariant-loop-self : goal.invariant-loop-self
invariant-loop-self l = types_onto (types_of l.self) (types_of l.done) ≡ types_onto (types_of l.fn.self) (types_of l.fn.end)
