-- Areas of memory of which none has an address of another, and places in them.
use Rattle.std.specs.Prelude.{◌≡◌, ℕ, ◌+◌, ◌-◌, ◌<◌, ◌≤◌, List, length, AllPairs, true, false, slice_index_or}
use Rattle.th_rv.specs.Memory.{Area, has}

-- no address is one of both areas
abbrev pub NoneOfBoth : Area → Area → Type 0
NoneOfBoth m n = (a : ℕ) → has m a ≡ true → has n a ≡ true → ⊥

-- no address is one of two of the areas
abbrev pub Apart : List Area → Type 0
Apart areas = AllPairs NoneOfBoth areas

-- the area has so many addresses from one on
pub record Spans (m : Area) (a n : ℕ) : Type 0 where
  pub from : m.at ≤ a
  pub within : a - m.at + n ≤ length m.bytes

-- the k-th of the areas has so many addresses from one on
pub record Holds (areas : List Area) (k a n : ℕ) : Type 0 where
  pub below : k < length areas
  pub spans : (d : Area) → Spans (slice_index_or areas k d) a n

-- no area has the address
abbrev pub IsNowhere : List Area → ℕ → Type 0
IsNowhere areas a = (k : ℕ) (d : Area) → k < length areas → has (slice_index_or areas k d) a ≡ false
