-- An order of classes in which each stands after the class that it inherits.
use Rattle.std.specs.Prelude.{◌≡◌, ◌⊎◌, ℕ, ◌<◌, List, [], ◌∷◌, length, take, slice_get, Bool, true, Option, Some, None, option_and_then}
use Rattle.std.specs.List.{Contains}
use Rattle.th_type.specs.Lists.{is_in}

abbrev pub up_in : Option (Option ℕ) → Option ℕ
up_in None = None
up_in (Some o) = o

-- what a place leads to in a list of places
abbrev pub up_at : List (Option ℕ) → ℕ → Option ℕ
up_at ups k = up_in (slice_get ups k)

-- the places are one, what it leads to, and so on, up to where the last leads
abbrev pub Leads : List (Option ℕ) → Option ℕ → List ℕ → Option ℕ → Type 0
Leads ups o [] e = o ≡ e
Leads ups o (k ∷ ks) e = (o ≡ Some k) × Leads ups (up_at ups k) ks e

-- each place leads in the end to none
abbrev pub Ending : List (Option ℕ) → Type 0
Ending ups = (k : ℕ) → k < length ups → (ks : List ℕ) × Leads ups (Some k) ks None

-- where a place leads within the list
abbrev pub Inner : List (Option ℕ) → Type 0
Inner ups = (k j : ℕ) → up_at ups k ≡ Some j → j < length ups

-- what a place leads to is one of those before it
abbrev pub Closed : List (Option ℕ) → List ℕ → Type 0
Closed ups order = (i k j : ℕ) → slice_get order i ≡ Some k → up_at ups k ≡ Some j → is_in j (take i order) ≡ true

-- all places, each once, each after that to which it leads
pub record IsOrder (ups : List (Option ℕ)) (order : List ℕ) : Type 0 where
  pub closed : Closed ups order
  pub all : (k : ℕ) → k < length ups → is_in k order ≡ true
  pub many : length order ≡ length ups
  pub within : (i k : ℕ) → slice_get order i ≡ Some k → k < length ups
