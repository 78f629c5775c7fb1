use Rattle.std.proofs.Common.{◌≤◌}
use Rattle.th_tree.specs.declared.tree.TypeList.{size-TypeList}
use Rattle.th_text_rows.proofs.show.Shower.+types.Given as goal

abbrev pub invariant-types-loop-left : goal.invariant-types-loop-left
invariant-types-loop-left l = size-TypeList l.left ≤ size-TypeList l.fn.list
