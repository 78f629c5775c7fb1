use Rattle.std.proofs.Common.{◌≡◌}
use Rattle.th_meaning.specs.View.{whens_of}
use Rattle.th_meaning.specs.Onto.{whens_onto}
use Rattle.th_meaning.proofs.stmt.CoreWhenList.turned.Given as goal

abbrev pub invariant-loop-self : goal.invariant-loop-self
invariant-loop-self l = whens_onto (whens_of l.self) (whens_of l.done) ≡ whens_onto (whens_of l.fn.self) (whens_of l.fn.end)
