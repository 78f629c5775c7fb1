-- Lists in which each type stands after its declared supertypes.
use Rattle.std.specs.Prelude.{◌≡◌, ℕ, ◌<◌, List, Some, slice_get}
use Rattle.th_type.specs.Types.{TypeExpr, TypeExprs, named_ty}
use Rattle.th_type.specs.Declarations.{DeclaredType, supers_of}
use Rattle.th_type.specs.Lists.{IsIn}

-- the type t is a declared one that stands in the list before the place k
abbrev pub StandsBefore : List ℕ → ℕ → TypeExpr → Type 0
StandsBefore ns k t = (j : ℕ) × (n : ℕ) × (args : TypeExprs) × (t ≡ named_ty n args) × (j < k) × (slice_get ns j ≡ Some n)

-- each declared supertype of a type of the list stands before it
abbrev pub SupersFirst : List DeclaredType → List ℕ → Type 0
SupersFirst D ns = (k n : ℕ) (t : TypeExpr) → slice_get ns k ≡ Some n → IsIn t (supers_of D n) → StandsBefore ns k t
