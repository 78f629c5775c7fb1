use Rattle.std.proofs.Common.{◌≡◌, ◌≤◌}
use Rattle.th_type.specs.Args.{args_items}
use Rattle.th_type.specs.Types.{tys_of, same_tys, subst_tys}
use Rattle.th_type.specs.declared.ty.TyList.{size-TyList}
use Rattle.th_type.proofs.ty.+matching.Given as goal

abbrev pub decreases-Ty::is_with : goal.decreases-Ty::is_with
decreases-Ty::is_with l = goal.size-Ty::is_with l

abbrev pub decreases-TyList::is_with : goal.decreases-TyList::is_with
decreases-TyList::is_with l = goal.size-TyList::is_with l

abbrev pub invariant-TyList::is_with-loop-left : goal.invariant-TyList::is_with-loop-left
invariant-TyList::is_with-loop-left l =
    (same_tys (subst_tys (args_items l.args) (tys_of l.left)) (tys_of l.right) ≡ same_tys (subst_tys (args_items l.args) (tys_of l.fn.self)) (tys_of l.fn.others))
    × (size-TyList l.left ≤ size-TyList l.fn.self)
