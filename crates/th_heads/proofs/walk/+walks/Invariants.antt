use Rattle.std.proofs.Common.{◌≡◌, ◌≤◌, Some}
use Rattle.th_tree.specs.declared.tree.TypeList.{size-TypeList}
use Rattle.th_tree.specs.View.{types_of}
use Rattle.th_type.specs.Types.{no_ty}
use Rattle.th_hier.specs.Views.{tys_opt}
use Rattle.th_hier.proofs.Walking.{means_along, least_along}
use Rattle.th_heads.proofs.walk.+walks.Given as goal

abbrev pub decreases-walk_type : goal.decreases-walk_type
decreases-walk_type l = goal.size-walk_type l

abbrev pub decreases-walk_types : goal.decreases-walk_types
decreases-walk_types l = goal.size-walk_types l

abbrev pub invariant-walk_types-loop-rest : goal.invariant-walk_types-loop-rest
invariant-walk_types-loop-rest l =
    (means_along l.found l.sight (types_of l.rest) (tys_opt l.done) ≡ means_along l.found l.sight (types_of l.fn.types) (Some no_ty))
    × (least_along l.found l.sight l.text (types_of l.rest) l.least ≡ least_along l.found l.sight l.text (types_of l.fn.types) l.fn.least)
    × (size-TypeList l.rest ≤ size-TypeList l.fn.types)
