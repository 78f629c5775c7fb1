-- The bytewise order of names, and the least of them.
use Rattle.std.specs.Prelude.{◌≡◌, ℕ, Bool, false, List, [], ◌∷◌, Option, Some, None, option_map, if◌then◌else◌}
use Rattle.std.specs.Ordering.{is_lt, nat_cmp}
use Rattle.std.specs.Cmp.Lexicographic.{slice_cmp}
use denote.Ref.{Bor}

-- whether a name stands before another one, bytewise: a beginning of a name stands before it
abbrev pub stands_before : List ℕ → List ℕ → Bool
stands_before a b = is_lt (slice_cmp nat_cmp a b)

-- the least name of a collection
abbrev pub IsLeastName : (List ℕ → Type 0) → List ℕ → Type 0
IsLeastName P n = P n × ((q : List ℕ) → P q → stands_before q n ≡ false)

-- no name is in the collection
abbrev pub IsNoName : (List ℕ → Type 0) → Type 0
IsNoName P = (q : List ℕ) → P q → ⊥

-- the least name of the collection, or none where it has none
abbrev pub IsLeastOf : (List ℕ → Type 0) → Option (List ℕ) → Type 0
IsLeastOf P None = IsNoName P
IsLeastOf P (Some n) = IsLeastName P n

-- the lesser of the name that was kept and of a name
abbrev pub lesser : Option (List ℕ) → List ℕ → Option (List ℕ)
lesser None n = Some n
lesser (Some m) n = if stands_before n m then Some n else Some m

-- the lesser of two names that were kept
abbrev pub lesser_of : Option (List ℕ) → Option (List ℕ) → Option (List ℕ)
lesser_of o None = o
lesser_of o (Some n) = lesser o n

-- the least of the name that was kept and of the names
abbrev pub least_of : Option (List ℕ) → List (List ℕ) → Option (List ℕ)
least_of o [] = o
least_of o (n ∷ ns) = least_of (lesser o n) ns

-- the name that the code keeps
abbrev pub kept : Option (Bor (List ℕ)) → Option (List ℕ)
kept o = option_map (λ n. n.now) o
