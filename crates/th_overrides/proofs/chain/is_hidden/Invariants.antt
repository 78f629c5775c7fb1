use Rattle.std.proofs.Common.{◌≡◌, map, drop, not, is_some}
use Rattle.std.specs.List.{list_all}
use Rattle.th_type.specs.Methods.{method_at}
use Rattle.th_overrides.specs.AncestorView.{ancestor_of}
use Rattle.th_overrides.proofs.chain.is_hidden.Given as goal

abbrev pub invariant-loop-ancestor : goal.invariant-loop-ancestor
invariant-loop-ancestor l =
    list_all (λ a. not (is_some (method_at l.hierarchy.types a.class.of l.method))) (map ancestor_of (drop l.ancestor-index l.chain))
    ≡ list_all (λ a. not (is_some (method_at l.hierarchy.types a.class.of l.method))) (map ancestor_of l.chain)
