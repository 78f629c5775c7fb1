use Rattle.std.proofs.Common.{◌≤◌}
use Rattle.th_tree.specs.declared.tree.ExprList.{size-ExprList}
use Rattle.th_text_rows.proofs.show.Shower.+exprs.Given as goal

abbrev pub invariant-args-loop-left : goal.invariant-args-loop-left
invariant-args-loop-left l = size-ExprList l.left ≤ size-ExprList l.fn.list
