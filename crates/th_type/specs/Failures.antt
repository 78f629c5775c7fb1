-- Failures of rules, their order, and the least of them.
use Rattle.std.specs.Prelude.{◌≡◌, ℕ, ◌<◌, ◌≤◌, Bool, true, false, nat_eq, nat_lt, ◌&&◌, ◌||◌, ◌⊎◌, List, [], ◌∷◌, Option, Some, None, MatchOption, if◌then◌else◌}
use Rattle.th_type.specs.declared.place.Place.{Place}
use Rattle.th_type.specs.declared.place.Failure.{Failure}

-- a byte of a text
abbrev pub place : ℕ → ℕ → Place
place text at = record { text = text; at = at }

-- the failure of a rule at a place
abbrev pub failure : ℕ → Place → Failure
failure rule p = record { place = p; rule = rule }

-- whether f stands before g: by text, then byte, then rule
abbrev pub before : Failure → Failure → Bool
before f g = nat_lt f.place.text g.place.text || (nat_eq f.place.text g.place.text && (nat_lt f.place.at g.place.at || (nat_eq f.place.at g.place.at && nat_lt f.rule g.rule)))

-- the failure that is kept of the one so far and a further one: whichever stands first
abbrev pub lower : Option Failure → Failure → Option Failure
lower None f = Some f
lower (Some g) f = if before f g then Some f else Some g

-- the least of the one so far and all of the list
abbrev pub lowest : Option Failure → List Failure → Option Failure
lowest o [] = o
lowest o (f ∷ fs) = lowest (lower o f) fs

-- the failures of a rule at a place: none where it holds
abbrev pub unless : Bool → ℕ → Place → List Failure
unless true rule p = []
unless false rule p = failure rule p ∷ []

-- whether there is no failure
abbrev pub none_of : List Failure → Bool
none_of [] = true
none_of (f ∷ fs) = false

-- f stands before g, or is at its place with its rule
abbrev pub UpTo : Failure → Failure → Type 0
UpTo f g = (f.place.text < g.place.text) ⊎ ((f.place.text ≡ g.place.text) × ((f.place.at < g.place.at) ⊎ ((f.place.at ≡ g.place.at) × (f.rule ≤ g.rule))))

-- what is found of a collection of failures: nothing exactly where there is none, else one that stands before or at all others
abbrev pub IsLeastOf : (Failure → Type 0) → Option Failure → Type 0
IsLeastOf P o = MatchOption o ((g : Failure) → ¬ P g) (λ f. P f × ((g : Failure) → P g → UpTo f g))
