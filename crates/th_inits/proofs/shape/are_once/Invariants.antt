use Rattle.std.proofs.Common.{◌≡◌, nat_eq, map}
use Rattle.std.specs.List.{list_all}
use Rattle.th_tree.specs.DeclView.{field_assign_of}
use Rattle.th_scope.specs.View.{locals_of}
use Rattle.th_module_rules.specs.Initializers.{times}
use Rattle.th_inits.proofs.shape.are_once.Given as goal

abbrev pub invariant-loop-rest : goal.invariant-loop-rest
invariant-loop-rest l =
    list_all (λ b. nat_eq (times b.name (map field_assign_of l.assigns)) 1) (locals_of l.rest) ≡ list_all (λ b. nat_eq (times b.name (map field_assign_of l.assigns)) 1) (locals_of l.fn.fields)
