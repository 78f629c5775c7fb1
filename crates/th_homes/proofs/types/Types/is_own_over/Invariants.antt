use Rattle.std.proofs.Common.{◌≡◌, drop, map}
use Rattle.std.specs.Prelude.{◌||◌, not, is_some, option_copied}
use Rattle.std.specs.List.{list_any}
use Rattle.th_meaning.specs.View.{type_of}
use Rattle.th_lowering.specs.Homes.{method_shape, differs, own_over}
use Rattle.th_homes.specs.View.{known_of}
use Rattle.th_homes.proofs.types.Types.is_own_over.Given as goal

abbrev pub invariant-loop-of : goal.invariant-loop-of
invariant-loop-of l = (not (l.inherited || list_any is_some (map (λ t. method_shape (known_of l.fn.self) t l.fn.method) (map type_of (drop l.of-index l.fn.types))))
    || list_any (λ x. differs x (option_copied l.fn.own)) (map (λ t. method_shape (known_of l.fn.self) t l.fn.method) (map type_of (drop l.of-index l.fn.types))))
    ≡ own_over (option_copied l.fn.own) (map (λ t. method_shape (known_of l.fn.self) t l.fn.method) (map type_of l.fn.types))
