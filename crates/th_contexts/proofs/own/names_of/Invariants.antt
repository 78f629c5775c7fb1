use Rattle.std.proofs.Common.{◌≡◌, map, drop}
use Rattle.th_tree.specs.DeclView.{method_of}
use Rattle.th_hier.specs.Naming.{different, with_numbers}
use Rattle.th_contexts.proofs.own.names_of.Given as goal

abbrev pub invariant-loop-method : goal.invariant-loop-method
invariant-loop-method l =
    with_numbers l.names (map (λ m. m.sig.name.name) (map method_of (drop l.method-index l.methods))) ≡ different (map (λ m. m.sig.name.name) (map method_of l.methods))
