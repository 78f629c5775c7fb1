-- A type with everything above it, and where its header words see which types.
use Rattle.std.specs.Prelude.{◌≡◌, ℕ, ◌+◌, List, length, Bool, true, false, nat_eq, cond, ◌⊎◌}
use Rattle.th_views.specs.declared.Turn.{Turn}
use Rattle.th_views.specs.declared.Turn.TheVariants.{First, Second, Later}

mutual
  -- name, whether it is marked to grow upward, own methods, declared supertypes
  pub data Tree : Type 0 where
    Node : ℕ → Bool → List ℕ → Trees → Tree

  pub data Trees : Type 0 where
    End : Trees
    Also : Tree → Trees → Trees

abbrev pub name_of : Tree → ℕ
name_of (Node n f own ss) = n

abbrev pub own_of : Tree → List ℕ
own_of (Node n f own ss) = own

abbrev pub bare : Trees → Bool
bare End = true
bare (Also s rest) = false

abbrev pub is_up : Tree → Bool
is_up (Node n f own ss) = cond f (bare ss) false

-- the place behind one whose supertype is topped or not
abbrev pub next : Turn → Bool → Turn
next First q = Second q
next (Second r) q = Later
next Later q = Later

-- whether a supertype there, upward or not, shares the word of the first
abbrev pub merged_at : Turn → Bool → Bool
merged_at First u = false
merged_at (Second q) u = cond q false u
merged_at Later u = false

-- whether a supertype there, topped or not, upward or not, makes the type topped
abbrev pub tops : Turn → Bool → Bool → Bool
tops First q u = q
tops (Second r) q u = u
tops Later q u = false

abbrev mutual
  pub topped : Tree → Bool
  topped (Node n f own ss) = cond (cond f (bare ss) false) true (topped_in First ss)

  pub topped_in : Turn → Trees → Bool
  topped_in p End = false
  topped_in p (Also s rest) = cond (tops p (topped s) (is_up s)) true (topped_in (next p (topped s)) rest)

-- the words that a supertype adds
abbrev pub room : Bool → ℕ → ℕ
room true n = 0
room false n = n

-- the word at which it begins
abbrev pub at : Bool → ℕ → ℕ
at true b = 0
at false b = b

abbrev mutual
  pub span : Tree → ℕ
  span (Node n f own ss) = cond (bare ss) 1 (span_in First ss)

  pub span_in : Turn → Trees → ℕ
  span_in p End = 0
  span_in p (Also s rest) = room (merged_at p (is_up s)) (span s) + span_in (next p (topped s)) rest

-- t is seen w words below the view of x
abbrev mutual
  pub Seen : Tree → Tree → ℕ → Type 0
  Seen (Node n f own ss) t w = ((t ≡ Node n f own ss) × (w ≡ 0)) ⊎ SeenIn First 0 ss t w

  pub SeenIn : Turn → ℕ → Trees → Tree → ℕ → Type 0
  SeenIn p b End t w = ⊥
  SeenIn p b (Also s rest) t w = ((v : ℕ) × (w ≡ at (merged_at p (is_up s)) b + v) × Seen s t v)
      ⊎ SeenIn (next p (topped s)) (b + room (merged_at p (is_up s)) (span s)) rest t w

abbrev mutual
  pub reaches : Tree → ℕ → Bool
  reaches (Node n f own ss) u = cond (nat_eq n u) true (reaches_in ss u)

  pub reaches_in : Trees → ℕ → Bool
  reaches_in End u = false
  reaches_in (Also s rest) u = cond (reaches s u) true (reaches_in rest u)

-- words down to the view of u, by the first supertype that reaches it
abbrev mutual
  pub cast : Tree → ℕ → ℕ
  cast (Node n f own ss) u = cond (nat_eq n u) 0 (cast_in First 0 ss u)

  pub cast_in : Turn → ℕ → Trees → ℕ → ℕ
  cast_in p b End u = 0
  cast_in p b (Also s rest) u = cond (reaches s u) (at (merged_at p (is_up s)) b + cast s u)
      (cast_in (next p (topped s)) (b + room (merged_at p (is_up s)) (span s)) rest u)

-- slots downward of the table at the type's own view; those of its first supertype
abbrev mutual
  pub depth : Tree → ℕ
  depth (Node n f own ss) = cond (cond f (bare ss) false) 0 (base_in ss + length own)

  pub base_in : Trees → ℕ
  base_in End = 0
  base_in (Also s rest) = depth s

abbrev pub base : Tree → ℕ
base (Node n f own ss) = base_in ss

-- a slot below or above the middle of a table
pub data Place : Type 0 where
  Below : ℕ → Place
  Above : ℕ → Place

abbrev pub place : Tree → ℕ → Place
place t i = cond (is_up t) (Above i) (Below (base t + i))

-- t is x or on x's chain of first supertypes
abbrev mutual
  pub On : Tree → Tree → Type 0
  On (Node n f own ss) t = (t ≡ Node n f own ss) ⊎ OnIn ss t

  pub OnIn : Trees → Tree → Type 0
  OnIn End t = ⊥
  OnIn (Also s rest) t = On s t
