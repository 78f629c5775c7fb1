use Rattle.std.proofs.Common.{◌≡◌, false, map, drop}
use Rattle.th_tree.specs.DeclView.{field_assign_of}
use Rattle.th_module_rules.specs.Initializers.{times}
use Rattle.th_inits.proofs.Shapes.{once_with}
use Rattle.th_inits.proofs.shape.is_once.Given as goal

abbrev pub invariant-loop-assign : goal.invariant-loop-assign
invariant-loop-assign l = once_with l.found (times l.name (map field_assign_of (drop l.assign-index l.assigns))) ≡ once_with false (times l.name (map field_assign_of l.assigns))
