-- Memory: bytes at addresses, in areas that say what may be done with them.
use Rattle.std.specs.Prelude.{ℕ, zero, suc, ◌+◌, ◌-◌, ◌*◌, ◌/◌, ◌%◌, List, [], ◌∷◌, length, Option, Some, None, Bool, false, nat_lt, nat_le, nat_eq, cond, slice_get, slice_set}

-- a run of bytes from an address on; flags are a sum of 1 (fetched from), 2 (stored to), 4 (loaded from)
pub record Area : Type 0 where
  pub at : ℕ
  pub flags : ℕ
  pub bytes : List ℕ

-- whether the area has the address
unfoldable pub has : Area → ℕ → Bool
has m a = cond (nat_le m.at a) (nat_lt (a - m.at) (length m.bytes)) false

-- whether the flags have this one: 1, 2 or 4
unfoldable pub allows : ℕ → ℕ → Bool
allows flag flags = nat_eq (flags / flag % 2) 1

-- the byte at an address: that of the first area that has the address, where the area allows it
abbrev pub byte_at : ℕ → List Area → ℕ → Option ℕ
byte_at flag [] a = None
byte_at flag (m ∷ ms) a = cond (has m a) (cond (allows flag m.flags) (slice_get m.bytes (a - m.at)) None) (byte_at flag ms a)

-- an area with its i-th byte replaced
unfoldable pub area_set : Area → ℕ → ℕ → Area
area_set m i v = record { at = m.at; flags = m.flags; bytes = slice_set m.bytes i v }

-- memory with the byte at an address replaced
abbrev pub put_at : List Area → ℕ → ℕ → List Area
put_at [] a v = []
put_at (m ∷ ms) a v = cond (has m a) (area_set m (a - m.at) v ∷ ms) (m ∷ put_at ms a v)

-- a low byte before a number's higher ones
abbrev pub with_byte : Option ℕ → Option ℕ → Option ℕ
with_byte None rest = None
with_byte (Some b) None = None
with_byte (Some b) (Some n) = Some (b + 256 * n)

-- the number that n bytes from an address on spell, the lowest byte first; none where one isn't allowed
abbrev pub number_at : ℕ → ℕ → List Area → ℕ → Option ℕ
number_at zero flag ms a = Some 0
number_at (suc n) flag ms a = with_byte (byte_at flag ms a) (number_at n flag ms (a + 1))

-- memory with the n bytes from an address on replaced by those of a number, the lowest first
abbrev pub put_number : ℕ → List Area → ℕ → ℕ → List Area
put_number zero ms a v = ms
put_number (suc n) ms a v = put_number n (put_at ms a (v % 256)) (a + 1) (v / 256)

-- a byte before further ones, where all are there
abbrev pub with_first : Option ℕ → Option (List ℕ) → Option (List ℕ)
with_first None rest = None
with_first (Some b) None = None
with_first (Some b) (Some bs) = Some (b ∷ bs)

-- the n bytes from an address on; none where one can't be loaded
abbrev pub bytes_at : ℕ → List Area → ℕ → Option (List ℕ)
bytes_at zero ms a = Some []
bytes_at (suc n) ms a = with_first (byte_at 4 ms a) (bytes_at n ms (a + 1))
