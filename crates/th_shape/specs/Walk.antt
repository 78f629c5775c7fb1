-- How the walk through classes marks and lists them.
use Rattle.std.specs.Prelude.{◌≡◌, ◌⊎◌, ℕ, ◌+◌, List, [], ◌∷◌, length, get_or, Bool, true, false, cond, Option, Some, None}
use Rattle.th_type.specs.Lists.{is_in}
use Rattle.th_shape.specs.Order.{Leads, Closed}

-- how many are not marked
abbrev pub gaps : List Bool → ℕ
gaps [] = 0
gaps (b ∷ bs) = cond b 0 1 + gaps bs

-- a way ends where it leads to none, or to a place that is marked or on the way
abbrev pub Stops : List Bool → List ℕ → Option ℕ → Type 0
Stops old path None = Unit {0}
Stops old path (Some k) = (get_or old k false ≡ true) ⊎ (is_in k path ≡ true)

-- what is marked now is what was, and the way; the marks fit the counts
pub record Marked (old new : List Bool) (path : List ℕ) : Type 0 where
  pub marks : (x : ℕ) → get_or new x false ≡ cond (is_in x path) true (get_or old x false)
  pub count : length path + gaps new ≡ gaps old
  pub many : length new ≡ length old

-- the way from a place up to one that was marked, and its marks
pub record Climbed (ups : List (Option ℕ)) (old new : List Bool) (from : ℕ) (path : List ℕ) : Type 0 where
  pub end : Option ℕ
  pub leads : Leads ups (Some from) path end
  pub stops : Stops old path end
  pub marked : Marked old new path
  pub first : get_or new from false ≡ true

-- what is marked is what stands in the order, each place after that to which it leads; the marks fit the counts
pub record Placing (ups : List (Option ℕ)) (marked : List Bool) (order : List ℕ) : Type 0 where
  pub closed : Closed ups order
  pub marks : (x : ℕ) → get_or marked x false ≡ is_in x order
  pub count : length order + gaps marked ≡ length ups
  pub many : length marked ≡ length ups
