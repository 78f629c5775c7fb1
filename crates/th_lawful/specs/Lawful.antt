-- What is asked of classes for a layout to be made.
use Rattle.std.specs.Prelude.{◌≡◌, ℕ, ◌+◌, ◌<◌, List, map, get_or, slice_get, Option, Some, None}
use Rattle.std.specs.List.{Contains}
use Rattle.th_type.specs.Declarations.{DeclaredType}
use Rattle.th_type.specs.Subtypes.{head_of}
use Rattle.th_views.specs.Shapes.{Shape, base_name, names_of}

-- one of the first classes has the number
abbrev pub IsEarlier : List Shape → ℕ → ℕ → Type 0
IsEarlier S k n = (j : ℕ) × (j < k) × (s : Shape) × (slice_get S j ≡ Some s) × (s.name ≡ n)

-- the number, if there is one, is that of one of the first classes
abbrev pub EarlierIn : List Shape → ℕ → Option ℕ → Type 0
EarlierIn S k None = Unit {0}
EarlierIn S k (Some n) = IsEarlier S k n

-- there is a number, and it is that of a declared type
abbrev pub DeclaredIn : List DeclaredType → Option ℕ → Type 0
DeclaredIn D None = ⊥
DeclaredIn D (Some n) = Contains (map (λ d. d.name) D) n

-- the class at a place has a higher number than the one before
abbrev pub RisesAt : List ℕ → ℕ → Type 0
RisesAt names k = (j : ℕ) → j + 1 ≡ k → get_or names j 0 < get_or names k 0

-- the class at a place is for a declared type, has a higher number than the one before, and inherits none or an earlier one
pub record LawfulAt (D : List DeclaredType) (S : List Shape) (k : ℕ) : Type 0 where
  pub typed : (s : Shape) → slice_get S k ≡ Some s → DeclaredIn D (head_of s.of)
  pub rises : RisesAt (names_of S) k
  pub inherits : (s : Shape) → slice_get S k ≡ Some s → EarlierIn S k (base_name s)
