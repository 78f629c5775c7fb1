use Rattle.std.proofs.Common.{◌≡◌, ◌++◌, map, drop}
use Rattle.th_tree.specs.DeclView.{method_of}
use Rattle.th_cores.specs.Cores.{method_names}
use Rattle.th_cores.proofs.class.method_names.Given as goal

abbrev pub invariant-loop-method : goal.invariant-loop-method
invariant-loop-method l = l.done.items ++ method_names l.names (map method_of (drop l.method-index l.methods)) ≡ method_names l.names (map method_of l.methods)
