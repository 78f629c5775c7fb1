use Rattle.std.proofs.Common.{◌≡◌, ◌≤◌, Some}
use Rattle.th_tree.specs.declared.tree.TypeList.{size-TypeList}
use Rattle.th_tree.specs.View.{types_of}
use Rattle.th_type.specs.Types.{no_ty}
use Rattle.th_hier.specs.Views.{tys_opt}
use Rattle.th_scope.specs.View.{context_of, locals_of}
use Rattle.th_scope.proofs.Walking.{means_along, least_along}
use Rattle.th_scope.proofs.resolve.+walks.Given as goal

abbrev pub decreases-walk_type : goal.decreases-walk_type
decreases-walk_type l = goal.size-walk_type l

abbrev pub decreases-walk_types : goal.decreases-walk_types
decreases-walk_types l = goal.size-walk_types l

abbrev pub invariant-walk_types-loop-rest : goal.invariant-walk_types-loop-rest
invariant-walk_types-loop-rest l =
    (means_along (context_of l.env) (locals_of l.locals) (types_of l.rest) (tys_opt l.done) ≡ means_along (context_of l.env) (locals_of l.locals) (types_of l.fn.types) (Some no_ty))
    × (least_along (context_of l.env) (locals_of l.locals) (types_of l.rest) l.least ≡ least_along (context_of l.env) (locals_of l.locals) (types_of l.fn.types) l.fn.least)
    × (size-TypeList l.rest ≤ size-TypeList l.fn.types)
