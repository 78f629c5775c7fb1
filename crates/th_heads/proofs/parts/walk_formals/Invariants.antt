use Rattle.std.proofs.Common.{◌≡◌, Some, map, drop}
use Rattle.th_tree.specs.View.{formal_of}
use Rattle.th_type.specs.Types.{no_ty}
use Rattle.th_hier.specs.Heads.{formal_types}
use Rattle.th_hier.specs.Views.{tys_opt}
use Rattle.th_hier.proofs.Walking.{means_along, least_along}
use Rattle.th_heads.proofs.parts.walk_formals.Given as goal

abbrev pub invariant-loop-formal : goal.invariant-loop-formal
invariant-loop-formal l =
    (means_along l.found l.sight (formal_types (map formal_of (drop l.formal-index l.formals))) (tys_opt l.done) ≡ means_along l.found l.sight (formal_types (map formal_of l.formals)) (Some no_ty))
    × (least_along l.found l.sight l.text (formal_types (map formal_of (drop l.formal-index l.formals))) l.least ≡ least_along l.found l.sight l.text (formal_types (map formal_of l.formals)) l.fn.least)
