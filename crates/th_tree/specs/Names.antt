-- Numbered names.
use Rattle.std.specs.Prelude.{ℕ, ◌+◌, Bool, List, [], ◌∷◌, ◌++◌, if◌then◌else◌}
use Rattle.std.specs.List.{list_any}
use Rattle.std.specs.Str.{bytes_eq}
use Rattle.std.specs.Global.{Vec}

-- the lists of bytes that the vectors hold
abbrev pub all_bytes : List (Vec ℕ) → List (List ℕ)
all_bytes [] = []
all_bytes (v ∷ vs) = v.items ∷ all_bytes vs

-- the name is one of the names
abbrev pub is_there : List (List ℕ) → List ℕ → Bool
is_there names name = list_any (bytes_eq name) names

-- the first place of the name, or the number of names where it is not there
abbrev pub place_of : List (List ℕ) → List ℕ → ℕ
place_of [] name = 0
place_of (n ∷ ns) name = if bytes_eq name n then 0 else 1 + place_of ns name

-- the names with this one, which goes last where it is not there
abbrev pub with_name : List (List ℕ) → List ℕ → List (List ℕ)
with_name names name = if is_there names name then names else names ++ name ∷ []
