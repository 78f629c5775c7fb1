-- Putting a text at a sink, up to the first fault.
use Rattle.std.specs.Prelude.{◌≡◌, ℕ, ◌≤◌, List, ◌++◌, Option, option_map}
use Rattle.th_world.specs.Outside.{Rose}

-- what a sink tells: the bytes put, None where they are not told, and its count of faults
pub record Told : Type 0 where
  pub bytes : Option (List ℕ)
  pub faults : ℕ

abbrev pub told : Option (List ℕ) → ℕ → Told
told bytes faults = record { bytes = bytes; faults = faults }

-- the text was put, without a fault
pub record PutsAll (text : List ℕ) (before later : Told) : Type 0 where
  pub put : later.bytes ≡ option_map (λ bytes. bytes ++ text) before.bytes
  pub faults : later.faults ≡ before.faults

-- a prefix of the text was put, and then came a fault
pub record PutsPart (text : List ℕ) (before later : Told) : Type 0 where
  pub said : List ℕ
  pub unsaid : List ℕ
  pub split : text ≡ said ++ unsaid
  pub put : later.bytes ≡ option_map (λ bytes. bytes ++ said) before.bytes
  pub rose : Rose before.faults later.faults

-- of the whole text all but the rest was put
pub record Putting (rest whole : List ℕ) (before later : Told) : Type 0 where
  pub done : List ℕ
  pub split : done ++ rest ≡ whole
  pub put : PutsAll done before later
