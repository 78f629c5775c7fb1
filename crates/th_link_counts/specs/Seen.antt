-- The names that a map has.
use Rattle.std.specs.Prelude.{◌≡◌, ℕ, List, is_some, bytes_eq}
use Rattle.std.specs.HashMap.{HashMap, get_by}
use denote.Ref.{Bor}
use Rattle.th_tree.specs.Names.{is_there}

-- the map has just these names
abbrev pub Seen : {X S : Type 0} → List (List ℕ) → HashMap (Bor (List ℕ)) X S → Type 0
Seen names m = (q : List ℕ) → is_some (get_by (λ k. bytes_eq q k.now) m) ≡ is_there names q
