use Rattle.std.proofs.Common.{◌≡◌}
use Rattle.th_tree.specs.View.{whens_of}
use Rattle.th_tree.specs.Onto.{whens_onto}
use Rattle.th_tree.proofs.tree.WhenList.turned.Given as goal

abbrev pub invariant-loop-self : goal.invariant-loop-self
invariant-loop-self l = whens_onto (whens_of l.self) (whens_of l.done) ≡ whens_onto (whens_of l.fn.self) (whens_of l.fn.end)
