use Rattle.std.proofs.Common.{◌≡◌, ◌≤◌}
use Rattle.th_type.specs.Types.{tys_of, tys_onto}
use Rattle.th_type.specs.declared.ty.TyList.{size-TyList}
use Rattle.th_type.proofs.ty.+copies.Given as goal

abbrev pub decreases-Ty::try_clone : goal.decreases-Ty::try_clone
decreases-Ty::try_clone l = goal.size-Ty::try_clone l

abbrev pub decreases-TyList::try_clone : goal.decreases-TyList::try_clone
decreases-TyList::try_clone l = goal.size-TyList::try_clone l

abbrev pub invariant-TyList::try_clone-loop-rest : goal.invariant-TyList::try_clone-loop-rest
invariant-TyList::try_clone-loop-rest l =
    (tys_onto (tys_of l.done) (tys_of l.rest) ≡ tys_of l.fn.self)
    × (size-TyList l.rest ≤ size-TyList l.fn.self)
