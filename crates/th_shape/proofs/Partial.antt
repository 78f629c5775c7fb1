-- What stands of the classes after the first ones.
use Rattle.std.specs.Prelude.{◌≡◌, ℕ, List, Option, Some, slice_get}
use Rattle.th_type.specs.Declarations.{DeclaredType}
use Rattle.th_views.specs.declared.ClassRow.{ClassRow}
use Rattle.th_views.specs.Shapes.{Shape}
use Rattle.th_shape.specs.declared.class_rows.ClassResults.{ClassResults}
use Rattle.th_shape.specs.Built.{shape_at, ResultsBuilt, RowBuilt}

-- the results of the class at a place
abbrev pub DoneAt : List DeclaredType → List Shape → Option ℕ → ClassResults → Type 0
DoneAt D S k results = (s : Shape) × (shape_at S k ≡ Some s) × ResultsBuilt D S s results

-- the results of the first classes of the order
abbrev pub AllDone : List DeclaredType → List Shape → List ℕ → List ClassResults → Type 0
AllDone D S order done = (k : ℕ) (r : ClassResults) → slice_get done k ≡ Some r → DoneAt D S (slice_get order k) r

-- the rows of the first classes of the order
abbrev pub RowsSoFar : List DeclaredType → (ℕ → Option ℕ) → (ℕ → Option ℕ) → List Shape → List ℕ → List ClassRow → Type 0
RowsSoFar D f g S order rows = (k : ℕ) (r : ClassRow) → slice_get rows k ≡ Some r → RowBuilt D f g S order (slice_get order k) r
