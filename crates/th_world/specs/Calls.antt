-- The calls of an object in memory: which of them fail, how many came, how many were faults.
use Rattle.std.specs.Prelude.{◌≡◌, ℕ, ◌+◌, ◌-◌, ◌^◌, ◌<◌, min, List, Contains}

-- the numbers of the calls that are to fail, the number of the next call, and the count of faults
pub record Calls : Type 0 where
  pub fail : List ℕ
  pub number : ℕ
  pub faults : ℕ

-- n + 1, but no more than the greatest 64-bit number
abbrev pub one_more : ℕ → ℕ
one_more n = min (n + 1) (2 ^ 64 - 1)

-- the next call is to fail: its number is one of those, and isn't the greatest 64-bit number
abbrev pub IsToFail : Calls → Type 0
IsToFail calls = Contains calls.fail calls.number × (calls.number < 2 ^ 64 - 1)

-- a call came that was no fault
abbrev pub after_success : Calls → Calls
after_success calls = record { fail = calls.fail; number = one_more calls.number; faults = calls.faults }

-- a call came that was a fault
abbrev pub after_fault : Calls → Calls
after_fault calls = record { fail = calls.fail; number = one_more calls.number; faults = one_more calls.faults }

-- no call came yet, and the calls with these numbers are to fail
pub record AreFresh (fail : List ℕ) (calls : Calls) : Type 0 where
  pub number : calls.number ≡ 0
  pub faults : calls.faults ≡ 0
  pub same : (n : ℕ) → (Contains fail n → Contains calls.fail n) × (Contains calls.fail n → Contains fail n)
