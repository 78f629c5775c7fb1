use Rattle.std.proofs.Common.{◌≤◌}
use Rattle.th_tree.specs.declared.tree.TypeList.{size-TypeList}
use Rattle.th_tree.proofs.+types.Given as goal

abbrev pub invariant-tree::TypeList::drop-loop-self : goal.invariant-tree::TypeList::drop-loop-self
invariant-tree::TypeList::drop-loop-self l = size-TypeList l.self ≤ size-TypeList l.fn.self
