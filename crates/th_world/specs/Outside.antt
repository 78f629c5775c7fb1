-- What the outside means: the bytes that are left, files by their names, counts of faults.
use Rattle.std.specs.Prelude.{ℕ, ◌+◌, ◌^◌, ◌-◌, ◌≤◌, min, List, [], ◌∷◌, Option, None, Some, if◌then◌else◌}
use Rattle.std.specs.Str.{bytes_eq}

-- the count of faults rose from `before` to `now`, or stands at the greatest 64-bit number
abbrev pub Rose : ℕ → ℕ → Type 0
Rose before now = min (before + 1) (2 ^ 64 - 1) ≤ now

-- the first byte, where there is one
abbrev pub first_byte : List ℕ → Option ℕ
first_byte [] = None
first_byte (b ∷ bytes) = Some b

-- the bytes without the first one
abbrev pub without_first : List ℕ → List ℕ
without_first [] = []
without_first (b ∷ bytes) = bytes

-- the files with `bytes` under `name`, and every other name as before
abbrev pub with_file : List ℕ → List ℕ → (List ℕ → Option (List ℕ)) → List ℕ → Option (List ℕ)
with_file name bytes files q = if bytes_eq name q then Some bytes else files q
