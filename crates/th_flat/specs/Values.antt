-- What a Flat run works on: words and the status. Truth values are the numbers 1 and 0.
use Rattle.std.specs.Prelude.{ℕ, ◌-◌, ◌^◌, List, Option, ℤ, pos, negsuc, Bool, true, false, nat_lt, if◌then◌else◌}
use Rattle.th_meaning.specs.World.{World}

-- how a reference sees its object: as a whole, which is how arrays, new objects and `self` are seen; or at a declared type
pub data View : Type 0 where
  as_whole : View
  at_type : (name : List ℕ) → View

-- a word: a number, a reference to the object of a number, a text, or what stands for the unit of a full name
pub data FlatValue : Type 0 where
  Int : ℤ → FlatValue
  Ref : (object : ℕ) → (view : View) → FlatValue
  Text : (bytes : List ℕ) → FlatValue
  Code : (unit : List ℕ) → FlatValue

-- the world of a Flat run
abbrev pub FlatWorld : Type 0
FlatWorld = World FlatValue

-- the status with the value word: nothing is on its way; an exception is, perhaps with an argument; or a loop's body left
-- its loop
pub data Status : Type 0 where
  Fine : Status
  Thrown : (name : List ℕ) → (argument : Option FlatValue) → Status
  IsStopped : Status

-- the number that a word of 32 bits is
abbrev pub signed : ℕ → ℤ
signed n = if nat_lt n (2 ^ 31) then pos n else negsuc (2 ^ 32 - 1 - n)

-- a truth value as a word
abbrev pub truth : Bool → FlatValue
truth true = Int (pos 1)
truth false = Int (pos 0)
