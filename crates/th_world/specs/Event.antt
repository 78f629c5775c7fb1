-- What a run does that can be seen from outside. A trace is a list of events, the newest first.
use Rattle.std.specs.Prelude.{◌≡◌, ℕ, List, [], ◌∷◌, ◌++◌}

-- one event: a byte put, a byte taken, the end of the input found, a unit entered (by its full name)
pub data Event : Type 0 where
  Put : (byte : ℕ) → Event
  Took : (byte : ℕ) → Event
  FoundEnd : Event
  Entered : (unit : List ℕ) → Event

-- the bytes put, the oldest first
abbrev pub puts : List Event → List ℕ
puts [] = []
puts (Put b ∷ t) = puts t ++ b ∷ []
puts (Took b ∷ t) = puts t
puts (FoundEnd ∷ t) = puts t
puts (Entered u ∷ t) = puts t

-- the bytes taken, the oldest first
abbrev pub takes : List Event → List ℕ
takes [] = []
takes (Put b ∷ t) = takes t
takes (Took b ∷ t) = takes t ++ b ∷ []
takes (FoundEnd ∷ t) = takes t
takes (Entered u ∷ t) = takes t

-- the units entered, the oldest first
abbrev pub entries : List Event → List (List ℕ)
entries [] = []
entries (Put b ∷ t) = entries t
entries (Took b ∷ t) = entries t
entries (FoundEnd ∷ t) = entries t
entries (Entered u ∷ t) = entries t ++ u ∷ []

-- `t` is a prefix of `u` in time: `u` is `t` and then perhaps further events
pub record Prefix (t u : List Event) : Type 0 where
  pub more : List Event
  pub is : u ≡ more ++ t
