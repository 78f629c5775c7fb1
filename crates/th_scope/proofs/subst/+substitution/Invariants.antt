use Rattle.std.proofs.Common.{◌≡◌, ◌≤◌}
use Rattle.th_type.specs.Types.{tys_of, tys_onto, list_of, subst_tys}
use Rattle.th_type.specs.declared.ty.TyList.{size-TyList}
use Rattle.th_scope.proofs.subst.+substitution.Given as goal

abbrev pub decreases-substituted : goal.decreases-substituted
decreases-substituted l = goal.size-substituted l

abbrev pub decreases-substituted_list : goal.decreases-substituted_list
decreases-substituted_list l = goal.size-substituted_list l

abbrev pub invariant-substituted_list-loop-rest : goal.invariant-substituted_list-loop-rest
invariant-substituted_list-loop-rest l =
    (tys_onto (tys_of l.done) (subst_tys (list_of (tys_of l.args)) (tys_of l.rest)) ≡ subst_tys (list_of (tys_of l.args)) (tys_of l.list))
    × (size-TyList l.rest ≤ size-TyList l.list)
