use Rattle.std.proofs.Common.{◌≡◌, ◌++◌, map, drop}
use Rattle.th_tree.specs.DeclView.{method_of}
use Rattle.th_module_rules.specs.Limits.{method_places}
use Rattle.th_limits.proofs.units.push_methods.Given as goal

abbrev pub invariant-loop-method : goal.invariant-loop-method
invariant-loop-method l = l.places.items ++ method_places l.text (map method_of (drop l.method-index l.methods)) ≡ l.fn.places.items ++ method_places l.text (map method_of l.methods)
