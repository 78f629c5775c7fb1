-- Where in a list of classes the first of each number stands.
use Rattle.std.specs.Prelude.{◌≡◌, ℕ, suc, nat_eq, List, [], ◌∷◌, Option, Some, None, if◌then◌else◌}
use Rattle.std.specs.Map.{lookup}
use Rattle.th_module_rules.specs.Contexts.{Base}

-- the place of the first class of that number, where the list begins at place k
abbrev pub base_place : ℕ → ℕ → List Base → Option ℕ
base_place n k [] = None
base_place n k (b ∷ bs) = if nat_eq n b.full then Some k else base_place n (suc k) bs

-- each number has the place of the first class of that number
abbrev pub Placed : List Base → List (ℕ × ℕ) → Type 0
Placed bs places = (n : ℕ) → lookup (nat_eq n) places ≡ base_place n 0 bs
