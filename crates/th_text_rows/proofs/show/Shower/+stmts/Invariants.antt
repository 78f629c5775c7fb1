use Rattle.std.proofs.Common.{◌≤◌}
use Rattle.th_tree.specs.declared.tree.Body.{size-Body}
use Rattle.th_tree.specs.declared.tree.ElseTree.{size-ElseTree}
use Rattle.th_tree.specs.declared.tree.WhenList.{size-WhenList}
use Rattle.th_text_rows.proofs.show.Shower.+stmts.Given as goal

abbrev pub invariant-body-loop-left : goal.invariant-body-loop-left
invariant-body-loop-left l = size-Body l.left ≤ size-Body l.fn.list

abbrev pub invariant-otherwise-loop-left : goal.invariant-otherwise-loop-left
invariant-otherwise-loop-left l = size-ElseTree l.left ≤ size-ElseTree l.fn.tree

abbrev pub invariant-whens-loop-left : goal.invariant-whens-loop-left
invariant-whens-loop-left l = size-WhenList l.left ≤ size-WhenList l.fn.list
