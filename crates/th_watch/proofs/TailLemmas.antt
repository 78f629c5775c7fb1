-- An array of the last hits, rotated by one, takes one more at its front.
use Rattle.std.proofs.Common.{◌≡◌, ℕ, ◌+◌, ◌<◌, ◌≤◌, suc, List, [], ◌∷◌, ◌++◌, length, take, drop, set, refl, sym, ap, ◌∙◌, arith, add-one}
use Rattle.std.proofs.lemmas.List.{length-drop, length-take, take-take, take_all}

-- the first of a list that begins with one member
set_one : (front rest : List ℕ) (x : ℕ) → length front ≡ 1 → set (front ++ rest) 0 x ≡ x ∷ rest
set_one [] rest x one = absurd (omega arith)
set_one (y ∷ []) rest x one = refl
set_one (y ∷ z ∷ front) rest x one = absurd (omega arith)

-- m + 1 members, rotated to the right by one, with x at the front
rotated : (m : ℕ) (old new : List ℕ) (x : ℕ) → length old ≡ suc m → new ≡ drop m old ++ take m old → set new 0 x ≡ x ∷ take m old
rotated m old new x full is =
    rw is (set_one (drop m old) (take m old) x (length-drop m old ∙ omega arith))

-- with room left, the first k + 1 are x and the first k of before
pub take-rotated : (m : ℕ) (old new : List ℕ) (k x : ℕ) → length old ≡ suc m → new ≡ drop m old ++ take m old → k < suc m → take (k + 1) (set new 0 x) ≡ x ∷ take m (take k old)
take-rotated m old new k x full is below =
    let least : k ≤ m = omega arith in
    let few : length (take k old) ≤ m = rw length-take (omega arith) in
    rw (rotated m old new x full is, add-one) (ap (λ l. x ∷ l) (take-take k m old least ∙ sym (take_all m (take k old) few)))

-- with none left, all are x and the first m of before
pub take-rotated_full : (m : ℕ) (old new : List ℕ) (k x : ℕ) → length old ≡ suc m → new ≡ drop m old ++ take m old → k ≡ suc m → take k (set new 0 x) ≡ x ∷ take m (take k old)
take-rotated_full m old new k x full is whole =
    rw (whole, rotated m old new x full is) (ap (λ l. x ∷ l) (take-take m m old (omega arith) ∙ sym (take-take m (suc m) old (omega arith))))
