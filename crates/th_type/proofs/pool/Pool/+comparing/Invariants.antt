use Rattle.std.proofs.Common.{◌≡◌, ◌≤◌}
use Rattle.th_type.specs.Args.{args_items}
use Rattle.th_type.specs.Types.{tys_of, same_tys, subst_tys}
use Rattle.th_type.specs.declared.ty.TyList.{size-TyList}
use Rattle.th_type.specs.Pool.{tys_at}
use Rattle.th_type.proofs.pool.Pool.+comparing.Given as goal

abbrev pub invariant-list_is-loop-first : goal.invariant-list_is-loop-first
invariant-list_is-loop-first l =
    (same_tys (subst_tys (args_items l.args) (tys_at l.self l.left)) (tys_of l.right) ≡ same_tys (subst_tys (args_items l.args) (tys_at l.self l.fn.list)) (tys_of l.fn.others))
    × (size-TyList l.right ≤ size-TyList l.fn.others)
