-- What a binary search in ascending numbers says of an element.
use Rattle.std.proofs.Common.{◌≡◌, ℕ, ◌<◌, ◌≤◌, List, length, get_or, Result, Ok, Err, IsTrue, MatchResult, Contains, arith, sym, subst, refl, ◌∙◌}
use Rattle.std.specs.Result.{is_ok}
use Rattle.std.specs.Ordering.{nat_cmp}
use Rattle.std.specs.List.Sorted.{IsNonDecreasing, IsBinarySearchResult}
use Rattle.std.proofs.lemmas.List.{get_or_default}
use Rattle.std.proofs.lemmas.List.Sorted.{searched}

-- where a search among ascending numbers ends
abbrev Searched : List ℕ → ℕ → Result ℕ ℕ → Type 0
Searched xs x r = MatchResult r (λ i. (i < length xs) × (get_or xs i 0 ≡ x)) (λ i. (i ≤ length xs) × ((k : ℕ) → k < i → get_or xs k 0 < x) × ((k : ℕ) → i ≤ k → k < length xs → x < get_or xs k 0))

-- a value that is below x before i and above x from i on isn't x
not_there : (k i n v x : ℕ) → v ≡ x → k < n → (k < i → v < x) → (i ≤ k → k < n → x < v) → ⊥
not_there k i n v x is below before after = grind arith

-- it succeeds where the number is an element
found_where_contained : (xs : List ℕ) (x : ℕ) (r : Result ℕ ℕ) → Searched xs x r → Contains xs x → IsTrue (is_ok r)
found_where_contained xs x (Ok i) around held = refl
found_where_contained xs x (Err i) around (k, below, is) =
    let read : get_or xs k 0 ≡ x = sym (get_or_default xs k x 0 below) ∙ is in
    absurd (not_there k i (length xs) (get_or xs k 0) x read below (around.1 k) (around.2 k))

-- the number is an element where it succeeds
contained_where_found : (xs : List ℕ) (x : ℕ) (r : Result ℕ ℕ) → Searched xs x r → IsTrue (is_ok r) → Contains xs x
contained_where_found xs x (Ok i) found ok = (i, found.0, get_or_default xs i x 0 found.0 ∙ found.1)
contained_where_found xs x (Err i) found ok = cc

-- a binary search among ascending numbers succeeds exactly where the number is an element
pub searched_Contains : (xs ys : List ℕ) (x : ℕ) (r : Result ℕ ℕ) → ys ≡ xs → IsNonDecreasing xs → IsBinarySearchResult (λ y. nat_cmp y x) ys r → (IsTrue (is_ok r) → Contains xs x) × (Contains xs x → IsTrue (is_ok r))
searched_Contains xs ys x r same ascending result =
    let at : IsBinarySearchResult (λ y. nat_cmp y x) xs r = subst (λ (zs : List ℕ). IsBinarySearchResult (λ y. nat_cmp y x) zs r) same result in
    let found : Searched xs x r = searched xs x r at (λ i j le lt. ascending i j 0 le lt) in
    (contained_where_found xs x r found, found_where_contained xs x r found)
