-- First places, counted from one on.
use Rattle.std.specs.Prelude.{ℕ, ◌+◌, List, [], ◌∷◌, nat_eq, cond, Option, Some, None}

-- the first place of a number, counted from k
abbrev pub index_from : ℕ → List ℕ → ℕ → Option ℕ
index_from k [] q = None
index_from k (x ∷ xs) q = cond (nat_eq x q) (Some k) (index_from (k + 1) xs q)
