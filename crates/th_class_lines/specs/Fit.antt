-- What is asked of classes for a layout to be made of them.
use Rattle.std.specs.Prelude.{◌≡◌, ℕ, ◌<◌, List, map, get_or, slice_get, Option, Some, None}
use Rattle.std.specs.List.{Contains}
use Rattle.th_type.specs.Closure.{Distinct}
use Rattle.th_type.specs.Declarations.{DeclaredType}
use Rattle.th_type.specs.Subtypes.{head_of}
use Rattle.th_views.specs.Lookups.{index_of}
use Rattle.th_views.specs.Shapes.{Shape, base_name, names_of, HasLines, IsTyped}

-- the classes have different numbers, each is for a declared type, and each has its line
pub record AreFit (D : List DeclaredType) (S : List Shape) : Type 0 where
  pub names : Distinct (names_of S)
  pub typed : IsTyped D S
  pub lines : HasLines S

-- there is a number, and it is that of a declared type
abbrev pub DeclaredIn : List DeclaredType → Option ℕ → Type 0
DeclaredIn D None = ⊥
DeclaredIn D (Some n) = Contains (map (λ d. d.name) D) n

-- the number, if there is one, is that of a class of lower rank than the one at the place k
abbrev pub LowerIn : List Shape → List ℕ → ℕ → Option ℕ → Type 0
LowerIn S ranks k None = Unit {0}
LowerIn S ranks k (Some n) = (j : ℕ) × (index_of n (names_of S) ≡ Some j) × (get_or ranks j 0 < get_or ranks k 0)

-- the class at a place is for a declared type, is the first of its number, and inherits none or one of lower rank
pub record FitAt (D : List DeclaredType) (S : List Shape) (ranks : List ℕ) (k : ℕ) : Type 0 where
  pub typed : (s : Shape) → slice_get S k ≡ Some s → DeclaredIn D (head_of s.of)
  pub first : (s : Shape) → slice_get S k ≡ Some s → index_of s.name (names_of S) ≡ Some k
  pub inherits : (s : Shape) → slice_get S k ≡ Some s → LowerIn S ranks k (base_name s)
