-- The values of the code as those of the meaning.
use Rattle.std.specs.Prelude.{ℕ, List, Option, Some, None, slice_get}
use Rattle.th_meaning.specs.Meaning.{Value, Int as IntValue, Truth as TruthValue, Ref as RefValue, Text as TextValue}
use Rattle.th_control.specs.declared.value.Kind.{Kind}
use Rattle.th_control.specs.declared.value.Kind.TheVariants.{Int, Truth, Ref, Text}

-- the value that the meaning has
abbrev pub value_of : Kind → Value
value_of (Int n) = IntValue n
value_of (Truth b) = TruthValue b
value_of (Ref k) = RefValue k
value_of (Text bytes) = TextValue bytes.now

-- the value of a local; None where it isn't bound
abbrev pub bound_at : List (Option Value) → ℕ → Option Value
bound_at locals k = elim (slice_get locals k) [ None ↦ None | Some v ↦ v ]
