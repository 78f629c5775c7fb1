use Rattle.std.proofs.Common.{◌≤◌}
use Rattle.th_tree.specs.declared.tree.ExprList.{size-ExprList}
use Rattle.th_tree.proofs.+exprs.Given as goal

abbrev pub invariant-tree::ExprList::drop-loop-self : goal.invariant-tree::ExprList::drop-loop-self
invariant-tree::ExprList::drop-loop-self l = size-ExprList l.self ≤ size-ExprList l.fn.self
