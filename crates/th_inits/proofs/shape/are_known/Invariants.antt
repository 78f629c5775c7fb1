use Rattle.std.proofs.Common.{◌≡◌, is_some, map, drop}
use Rattle.std.specs.List.{list_all}
use Rattle.th_tree.specs.DeclView.{field_assign_of}
use Rattle.th_rules.specs.Context.{find_binding}
use Rattle.th_scope.specs.View.{locals_of}
use Rattle.th_inits.proofs.shape.are_known.Given as goal

abbrev pub invariant-loop-assign : goal.invariant-loop-assign
invariant-loop-assign l =
    list_all (λ a. is_some (find_binding (locals_of l.fields) a.field.name)) (map field_assign_of (drop l.assign-index l.assigns))
    ≡ list_all (λ a. is_some (find_binding (locals_of l.fields) a.field.name)) (map field_assign_of l.assigns)
