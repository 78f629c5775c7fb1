use Rattle.std.proofs.Common.{◌≡◌, ◌≤◌}
use Rattle.th_type.specs.Types.{tys_of, same_tys}
use Rattle.th_type.specs.declared.ty.TyList.{size-TyList}
use Rattle.th_type.proofs.ty.+same.Given as goal

abbrev pub invariant-TyList::is_same-loop-left : goal.invariant-TyList::is_same-loop-left
invariant-TyList::is_same-loop-left l =
    (same_tys (tys_of l.left) (tys_of l.right) ≡ same_tys (tys_of l.fn.self) (tys_of l.fn.other))
    × (size-TyList l.left ≤ size-TyList l.fn.self)
