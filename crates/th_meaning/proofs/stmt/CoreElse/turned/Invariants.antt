use Rattle.std.proofs.Common.{◌≡◌}
use Rattle.th_meaning.specs.View.{else_of}
use Rattle.th_meaning.specs.Onto.{elses_onto}
use Rattle.th_meaning.proofs.stmt.CoreElse.turned.Given as goal

abbrev pub invariant-loop-self : goal.invariant-loop-self
invariant-loop-self l = elses_onto (else_of l.self) (else_of l.done) ≡ elses_onto (else_of l.fn.self) (else_of l.fn.end)
