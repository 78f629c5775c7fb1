use Rattle.std.proofs.Common.{◌≡◌, ◌≤◌, length, map, drop}
use Rattle.th_tree.specs.View.{formal_of}
use Rattle.th_module_rules.specs.Contexts.{bindings}
use Rattle.th_scope.specs.ItemView.{locals_of}
use Rattle.th_contexts.proofs.field.fields_of.Given as goal

abbrev pub invariant-loop-k : goal.invariant-loop-k
invariant-loop-k l = (l.k ≤ length l.formals) × (locals_of l.done ≡ bindings l.found l.sight l.k (drop l.k (map formal_of l.formals)))

abbrev pub decreases-loop-k : goal.decreases-loop-k
decreases-loop-k l = l.k
