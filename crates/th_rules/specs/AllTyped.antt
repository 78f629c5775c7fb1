-- Locals with types.
use Rattle.std.specs.Prelude.{List, [], ◌∷◌, Option, is_some, true, ◌≡◌}
use Rattle.th_rules.specs.Context.{Binding}

-- each of the locals has a type
abbrev pub AllTyped : List Binding → Type 0
AllTyped [] = Unit {0}
AllTyped (b ∷ bs) = (is_some b.of ≡ true) × AllTyped bs
