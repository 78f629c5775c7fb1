use Rattle.std.proofs.Common.{◌≡◌}
use Rattle.th_tree.specs.View.{exprs_of}
use Rattle.th_tree.specs.Onto.{exprs_onto}
use Rattle.th_tree.proofs.tree.ExprList.turned.Given as goal

abbrev pub invariant-loop-self : goal.invariant-loop-self
invariant-loop-self l = exprs_onto (exprs_of l.self) (exprs_of l.done) ≡ exprs_onto (exprs_of l.fn.self) (exprs_of l.fn.end)
