use Rattle.std.proofs.Common.{◌≤◌}
use Rattle.th_tree.specs.declared.tree.Body.{size-Body}
use Rattle.th_tree.specs.declared.tree.ElseTree.{size-ElseTree}
use Rattle.th_tree.specs.declared.tree.WhenList.{size-WhenList}
use Rattle.th_tree.proofs.tree.+stmts.Given as goal

abbrev pub invariant-Body::drop-loop-self : goal.invariant-Body::drop-loop-self
invariant-Body::drop-loop-self l = size-Body l.self ≤ size-Body l.fn.self

abbrev pub invariant-ElseTree::drop-loop-self : goal.invariant-ElseTree::drop-loop-self
invariant-ElseTree::drop-loop-self l = size-ElseTree l.self ≤ size-ElseTree l.fn.self

abbrev pub invariant-WhenList::drop-loop-self : goal.invariant-WhenList::drop-loop-self
invariant-WhenList::drop-loop-self l = size-WhenList l.self ≤ size-WhenList l.fn.self
