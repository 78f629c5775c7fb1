use Rattle.std.proofs.Common.{◌≡◌, ◌≤◌}
use Rattle.th_meaning.specs.View.{types_of}
use Rattle.th_meaning.specs.Weights.{same_types}
use Rattle.th_meaning.specs.declared.types.CoreTypeList.{size-CoreTypeList}
use Rattle.th_subst.proofs.same.+same.Given as goal

abbrev pub invariant-is_same_list-loop-left : goal.invariant-is_same_list-loop-left
invariant-is_same_list-loop-left l =
    (same_types (types_of l.left) (types_of l.right) ≡ same_types (types_of l.fn.this) (types_of l.fn.other))
    × (size-CoreTypeList l.left ≤ size-CoreTypeList l.fn.this)
