-- Sums that stay at the greatest number of 64 bits.
use Rattle.std.proofs.Common.{◌≡◌, ℕ, ◌+◌, ◌-◌, ◌^◌, ◌<◌, ◌≤◌, List, [], ◌∷◌, ◌++◌, map, length, get_or, take, sym, ap, ◌∙◌, subst, arith}
use Rattle.std.specs.Prelude.{min, sum_by}
use Rattle.std.proofs.lemmas.List.{map-append, take_more, take_all}
use Rattle.std.proofs.lemmas.List.Sums.{sum_by_push}

pub capped_sum : (m n : ℕ) → min (min m (2 ^ 64 - 1) + min n (2 ^ 64 - 1)) (2 ^ 64 - 1) ≡ min (m + n) (2 ^ 64 - 1)
capped_sum m n = omega arith

-- the sum of one element more
sum_step : {A B : Type 0} (v : A → B) (f : B → ℕ) (xs : List A) (i : ℕ) (x : A) → i < length xs → x ≡ get_or xs i x → sum_by f (map v (take (i + 1) xs)) ≡ sum_by f (map v (take i xs)) + f (v x)
sum_step v f xs i x below is =
    ap (λ ys. sum_by f (map v ys)) (take_more xs i x below ∙ ap (λ y. take i xs ++ y ∷ []) (sym is))
    ∙ ap (sum_by f) (map-append v (take i xs) (x ∷ []))
    ∙ sum_by_push f (map v (take i xs)) (v x)

-- the same of numbers that stay at the greatest of 64 bits
pub sum_more : {A B : Type 0} (v : A → B) (f : B → ℕ) (xs : List A) (i : ℕ) (x : A) (sum n new : ℕ) → i < length xs → x ≡ get_or xs i x → n ≡ min (f (v x)) (2 ^ 64 - 1) → new ≡ min (sum + n) (2 ^ 64 - 1)
    → sum ≡ min (sum_by f (map v (take i xs))) (2 ^ 64 - 1) → new ≡ min (sum_by f (map v (take (i + 1) xs))) (2 ^ 64 - 1)
sum_more v f xs i x sum n new below is many sums so =
    sums
    ∙ ap (λ k. min (k + n) (2 ^ 64 - 1)) so
    ∙ ap (λ k. min (min (sum_by f (map v (take i xs))) (2 ^ 64 - 1) + k) (2 ^ 64 - 1)) many
    ∙ capped_sum (sum_by f (map v (take i xs))) (f (v x))
    ∙ ap (λ k. min k (2 ^ 64 - 1)) (sym (sum_step v f xs i x below is))

-- the sum of all elements
pub sum_all : {A B : Type 0} (v : A → B) (f : B → ℕ) (xs : List A) (i sum : ℕ) → length xs ≤ i → sum ≡ min (sum_by f (map v (take i xs))) (2 ^ 64 - 1) → sum ≡ min (sum_by f (map v xs)) (2 ^ 64 - 1)
sum_all v f xs i sum end so = so ∙ ap (λ ys. min (sum_by f (map v ys)) (2 ^ 64 - 1)) (take_all i xs end)
