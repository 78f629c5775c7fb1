-- What a string literal means.
use Rattle.std.specs.Prelude.{ℕ, ◌-◌, nat_eq, List, [], ◌∷◌, length, slice_range, if◌then◌else◌}

-- the byte that a backslash and this byte stand for: a line feed for n, and the byte itself for `"` and a backslash
abbrev pub escaped_byte : ℕ → ℕ
escaped_byte b = if nat_eq b 110 then 10 else b

abbrev mutual
  -- the bytes with each backslash and the byte after it replaced by the one byte that they stand for
  pub unescaped : List ℕ → List ℕ
  unescaped [] = []
  unescaped (b ∷ bs) = if nat_eq b 92 then after_backslash bs else b ∷ unescaped bs

  -- the same after a backslash
  pub after_backslash : List ℕ → List ℕ
  after_backslash [] = []
  after_backslash (b ∷ bs) = escaped_byte b ∷ unescaped bs

-- the bytes that a string literal means: those between its quotes, which are its first and its last byte, unescaped
abbrev pub literal_value : List ℕ → List ℕ
literal_value bs = unescaped (slice_range bs 1 (length bs - 1))
