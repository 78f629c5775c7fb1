use Rattle.std.proofs.Common.{◌≡◌}
use Rattle.th_meaning.specs.View.{exprs_of}
use Rattle.th_meaning.specs.Onto.{exprs_onto}
use Rattle.th_meaning.proofs.expr.CoreExprList.turned.Given as goal

abbrev pub invariant-loop-self : goal.invariant-loop-self
invariant-loop-self l = exprs_onto (exprs_of l.self) (exprs_of l.done) ≡ exprs_onto (exprs_of l.fn.self) (exprs_of l.fn.end)
