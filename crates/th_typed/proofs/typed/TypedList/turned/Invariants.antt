use Rattle.std.proofs.Common.{◌≡◌}
use Rattle.th_typed.specs.View.{checks_of, checks_onto}
use Rattle.th_typed.proofs.typed.TypedList.turned.Given as goal

abbrev pub invariant-loop-self : goal.invariant-loop-self
invariant-loop-self l = checks_onto (checks_of l.self) (checks_of l.done) ≡ checks_onto (checks_of l.fn.self) (checks_of l.fn.end)
