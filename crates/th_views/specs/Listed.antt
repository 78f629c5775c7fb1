-- The views of a type as a list, in the order in which the declared supertypes reach them.
use Rattle.std.specs.Prelude.{◌≡◌, ℕ, ◌+◌, List, [], ◌∷◌, ◌++◌, nat_eq, cond, ◌⊎◌, Option, Some, None}
use Rattle.th_views.specs.declared.Spot.{Spot}
use Rattle.th_views.specs.Tree.{Tree, Node, Trees, End, Also, is_up, next, merged_at, topped, room, at, span}
use Rattle.th_views.specs.declared.Turn.{Turn}
use Rattle.th_views.specs.declared.Turn.TheVariants.{First}

abbrev pub lowered : ℕ → List Spot → List Spot
lowered k [] = []
lowered k (s ∷ ss) = record { name = s.name; word = k + s.word } ∷ lowered k ss

abbrev mutual
  pub spots : Tree → List Spot
  spots (Node n f own ss) = record { name = n; word = 0 } ∷ spots_in First 0 ss

  pub spots_in : Turn → ℕ → Trees → List Spot
  spots_in p b End = []
  spots_in p b (Also s rest) = lowered (at (merged_at p (is_up s)) b) (spots s)
      ++ spots_in (next p (topped s)) (b + room (merged_at p (is_up s)) (span s)) rest

-- the word of the first view of u
abbrev pub first_of : ℕ → List Spot → Option ℕ
first_of u [] = None
first_of u (s ∷ ss) = cond (nat_eq s.name u) (Some s.word) (first_of u ss)

abbrev pub HasSpot : List Spot → ℕ → ℕ → Type 0
HasSpot [] n w = ⊥
HasSpot (s ∷ ss) n w = ((n ≡ s.name) × (w ≡ s.word)) ⊎ HasSpot ss n w
