-- Failures by their places among interfaces, and at the texts of these.
use Rattle.std.specs.Prelude.{◌≡◌, ℕ, List, [], ◌∷◌, slice_get, unwrap_or, Option, Some, None}
use Rattle.th_type.specs.declared.place.Failure.{Failure}
use Rattle.th_type.specs.Failures.{place, failure}

-- the failure at the text whose number is that of its interface
abbrev pub placed_in : List ℕ → Failure → Failure
placed_in texts f = failure f.rule (place (unwrap_or (slice_get texts f.place.text) f.place.text) f.place.at)

-- the failures of a collection, each at its text
abbrev pub Placed : List ℕ → (Failure → Type 0) → Failure → Type 0
Placed texts P f = (g : Failure) × P g × (f ≡ placed_in texts g)

-- the failure that is there
abbrev pub of_option : Option Failure → List Failure
of_option None = []
of_option (Some f) = f ∷ []
