-- Segments that have no address in common, judged on the list in order of their addresses.
use Rattle.std.proofs.Common.{◌≡◌, ◌≢◌, ◌⊎◌, ℕ, zero, suc, ◌+◌, ◌<◌, ◌≤◌, List, [], ◌∷◌, length, get_or, Bool, true, false, cond, eqb, nat_le, refl, sym, subst, ⊎_elim, inl, inr, arith}
use Rattle.std.specs.List.{list_all, All, AllPairs, swap}
use Rattle.std.proofs.lemmas.Bool.Decides.{nat_tests}
use Rattle.std.specs.List.Sorted.{IsPermutation, IsNonDecreasingBy}
use Rattle.std.proofs.lemmas.Bool.{leb-true, le-leb, and_parts, and_from, or_cases, or_left, or_right, cases_order}
use Rattle.std.proofs.lemmas.List.Edits.{Swapped, swapped_from_swap, length-swap}
use Rattle.std.proofs.lemmas.List.Sorted.{IsPermutation-keeps, IsPermutation-sym, All-permutation}
use Rattle.th_elf.specs.declared.header.Header.{Header}
use Rattle.th_elf.specs.Loadable.{are_apart, are_all_apart}
use Rattle.th_elf.specs.Rising.{rises_from}

-- Pairs by places.

pub all_at : {X : Type 0} (p : X → Bool) (xs : List X) (k : ℕ) (d : X) → list_all p xs ≡ true → k < length xs → p (get_or xs k d) ≡ true
all_at p [] k d all lt = absurd (omega arith)
all_at p (x ∷ xs) zero d all lt = (and_parts _ _ all).0
all_at p (x ∷ xs) (suc k) d all lt = all_at p xs k d (and_parts _ _ all).1 (omega arith)

at_all : {X : Type 0} (p : X → Bool) (xs : List X) → ((k : ℕ) (d : X) → k < length xs → p (get_or xs k d) ≡ true) → list_all p xs ≡ true
at_all p [] at = refl
at_all p (x ∷ xs) at = and_from _ _ (at zero x (omega arith)) (at_all p xs (λ k d lt. at (suc k) d (omega arith)))

-- two segments have no address in common, as a fact
abbrev pub Apart : Header → Header → Type 0
Apart h k = are_apart h k ≡ true

pub apart_cases : (h k : Header) → Apart h k → (h.vaddr + h.memsz ≤ k.vaddr) ⊎ (k.vaddr + k.memsz ≤ h.vaddr)
apart_cases h k a =
    ⊎_elim (λ l. inl (leb-true _ _ l)) (λ r. inr (leb-true _ _ r))
    (or_cases (nat_le (h.vaddr + h.memsz) k.vaddr) (nat_le (k.vaddr + k.memsz) h.vaddr) a)

apart_before : (h k : Header) → h.vaddr + h.memsz ≤ k.vaddr → Apart h k
apart_before h k l = or_left (nat_le (h.vaddr + h.memsz) k.vaddr) (nat_le (k.vaddr + k.memsz) h.vaddr) (le-leb _ _ l)

apart_after : (h k : Header) → k.vaddr + k.memsz ≤ h.vaddr → Apart h k
apart_after h k l = or_right (nat_le (h.vaddr + h.memsz) k.vaddr) (nat_le (k.vaddr + k.memsz) h.vaddr) (le-leb _ _ l)

apart_sym : (h k : Header) → Apart h k → Apart k h
apart_sym h k a = ⊎_elim (λ l. apart_after k h l) (λ r. apart_before k h r) (apart_cases h k a)

pub pairs_from : (xs : List Header) → are_all_apart xs ≡ true → AllPairs Apart xs
pairs_from [] all i j d lt below = absurd (omega arith)
pairs_from (x ∷ xs) all zero zero d lt below = absurd (omega arith)
pairs_from (x ∷ xs) all zero (suc j) d lt below = all_at (are_apart x) xs j d (and_parts _ _ all).0 (omega arith)
pairs_from (x ∷ xs) all (suc i) zero d lt below = absurd (omega arith)
pairs_from (x ∷ xs) all (suc i) (suc j) d lt below = pairs_from xs (and_parts _ _ all).1 i j d (omega arith) (omega arith)

from_pairs : (xs : List Header) → AllPairs Apart xs → are_all_apart xs ≡ true
from_pairs [] all = refl
from_pairs (x ∷ xs) all =
    and_from _ _
    (at_all (are_apart x) xs (λ k d lt. all zero (suc k) d (omega arith) (omega arith)))
    (from_pairs xs (λ i j d lt below. all (suc i) (suc j) d (omega arith) (omega arith)))

-- any two places, in either order
each_two : (xs : List Header) → AllPairs Apart xs → (i j : ℕ) (d : Header) → i ≢ j → i < length xs → j < length xs → Apart (get_or xs i d) (get_or xs j d)
each_two xs all i j d ne li lj =
    ⊎_elim (λ e. absurd (ne e)) (λ o. ⊎_elim (λ lt. all i j d lt lj) (λ lt. apart_sym (get_or xs j d) (get_or xs i d) (all j i d lt li)) o) (cases_order i j)

-- where the element at a place stood before two places were swapped
abbrev came_from : ℕ → ℕ → ℕ → ℕ
came_from a b k = cond (eqb k a) b (cond (eqb k b) a k)

came_in : (n a b k : ℕ) → a < n → b < n → k < n → came_from a b k < n
came_in n a b k la lb lk = grind (arith, nat_tests)

came_apart : (a b i j : ℕ) → i ≢ j → came_from a b i ≢ came_from a b j
came_apart a b i j ne same = grind (arith, nat_tests)

came_is : (f g : ℕ → Header) (a b k : ℕ) → Swapped f g a b → g k ≡ f (came_from a b k)
came_is f g a b k s = grind (arith, nat_tests, s.0, s.1, s.2 k)

swap_keeps : (l : List Header) (a b : ℕ) → a < length l → b < length l → AllPairs Apart l → AllPairs Apart (swap l a b)
swap_keeps l a b la lb all i j d lt below =
    let n = length l in
    let lj : j < length l = subst (λ n. j < n) (length-swap l a b) below in
    let li : i < length l = omega arith in
    let ne : i ≢ j = omega arith in
    let s = swapped_from_swap l (swap l a b) a b d la lb refl in
    let f = λ (k : ℕ). get_or l k d in
    let g = λ (k : ℕ). get_or (swap l a b) k d in
    let two : Apart (f (came_from a b i)) (f (came_from a b j)) =
    each_two l all (came_from a b i) (came_from a b j) d (came_apart a b i j ne)
    (came_in (length l) a b i la lb li) (came_in (length l) a b j la lb lj) in
    let one : Apart (g i) (f (came_from a b j)) = subst (λ h. Apart h (f (came_from a b j))) (sym (came_is f g a b i s)) two in
    subst (λ h. Apart (g i) h) (sym (came_is f g a b j s)) one

-- a permutation of segments that have no address in common has none
permuted_apart : (xs ys : List Header) → IsPermutation xs ys → are_all_apart xs ≡ true → are_all_apart ys ≡ true
permuted_apart xs ys perm all =
    from_pairs ys (IsPermutation-keeps xs (λ l. AllPairs Apart l) (pairs_from xs all) swap_keeps ys perm)

-- Pairs by elements in order.

-- a fact of each element, element by element
abbrev Each : (Header → Type 0) → List Header → Type 0
Each P [] = Unit {0}
Each P (x ∷ xs) = P x × Each P xs

each_from : (P : Header → Type 0) (xs : List Header) → ((k : ℕ) (d : Header) → k < length xs → P (get_or xs k d)) → Each P xs
each_from P [] at = tt
each_from P (x ∷ xs) at = (at zero x (omega arith), each_from P xs (λ k d lt. at (suc k) d (omega arith)))

-- a list in order of addresses, element by element
abbrev Rising : List Header → Type 0
Rising [] = Unit {0}
Rising (x ∷ xs) = Each (λ k. x.vaddr ≤ k.vaddr) xs × Rising xs

rising_from : (xs : List Header) → IsNonDecreasingBy (λ h. h.vaddr) xs → Rising xs
rising_from [] up = tt
rising_from (x ∷ xs) up = (
  each_from (λ k. x.vaddr ≤ k.vaddr) xs (λ k d lt. up zero (suc k) d (omega arith) (omega arith)),
  rising_from xs (λ i j d le lt. up (suc i) (suc j) d (omega arith) (omega arith)),
)

-- where segments rise from an address, all begin at or after it
rises_above : (end : ℕ) (xs : List Header) → rises_from end xs ≡ true → Each (λ k. end ≤ k.vaddr) xs
rises_above end [] up = tt
rises_above end (x ∷ xs) up =
    let first : end ≤ x.vaddr = leb-true _ _ (and_parts _ _ up).0 in
    (first, weaker xs end (x.vaddr + x.memsz) (omega arith) (rises_above (x.vaddr + x.memsz) xs (and_parts _ _ up).1))
  where
    weaker : (xs : List Header) (low high : ℕ) → low ≤ high → Each (λ k. high ≤ k.vaddr) xs → Each (λ k. low ≤ k.vaddr) xs
    weaker [] low high le all = tt
    weaker (y ∷ ys) low high le all = (omega arith, weaker ys low high le all.1)

all_after : (h : Header) (xs : List Header) → Each (λ k. h.vaddr + h.memsz ≤ k.vaddr) xs → list_all (are_apart h) xs ≡ true
all_after h [] all = refl
all_after h (x ∷ xs) all = and_from _ _ (apart_before h x all.0) (all_after h xs all.1)

-- segments that rise have no address in common
apart_from_rise : (end : ℕ) (xs : List Header) → rises_from end xs ≡ true → are_all_apart xs ≡ true
apart_from_rise end [] up = refl
apart_from_rise end (x ∷ xs) up =
    let rest : rises_from (x.vaddr + x.memsz) xs ≡ true = (and_parts _ _ up).1 in
    and_from _ _ (all_after x xs (rises_above (x.vaddr + x.memsz) xs rest)) (apart_from_rise (x.vaddr + x.memsz) xs rest)

-- a segment that has bytes and begins at or after another, and has no address of it, begins after its end
past : (h k : Header) → 0 < k.memsz → h.vaddr ≤ k.vaddr → Apart h k → h.vaddr + h.memsz ≤ k.vaddr
past h k some le a = ⊎_elim (λ l. l) (λ r. absurd (omega arith)) (apart_cases h k a)

all_past : (h : Header) (xs : List Header) → Each (λ k. 0 < k.memsz) xs → Each (λ k. h.vaddr ≤ k.vaddr) xs → list_all (are_apart h) xs ≡ true → Each (λ k. h.vaddr + h.memsz ≤ k.vaddr) xs
all_past h [] some up all = tt
all_past h (x ∷ xs) some up all = (past h x some.0 up.0 (and_parts _ _ all).0, all_past h xs some.1 up.1 (and_parts _ _ all).1)

-- segments in order of their addresses, with bytes and no address in common, rise
rise_from_apart : (end : ℕ) (xs : List Header) → Each (λ k. 0 < k.memsz) xs → Rising xs → Each (λ k. end ≤ k.vaddr) xs → are_all_apart xs ≡ true → rises_from end xs ≡ true
rise_from_apart end [] some up above all = refl
rise_from_apart end (x ∷ xs) some up above all =
    and_from _ _ (le-leb _ _ above.0)
    (rise_from_apart (x.vaddr + x.memsz) xs some.1 up.1 (all_past x xs some.1 up.0 (and_parts _ _ all).0) (and_parts _ _ all).1)

same_test : (b c : Bool) → (b ≡ true → c ≡ true) → (c ≡ true → b ≡ true) → b ≡ c
same_test true c to back = sym (to refl)
same_test false true to back = back refl
same_test false false to back = refl

above_zero : (xs : List Header) → Each (λ k. 0 ≤ k.vaddr) xs
above_zero [] = tt
above_zero (x ∷ xs) = (omega arith, above_zero xs)

-- whether segments with bytes have no address in common is whether they rise when they are in order of their addresses
pub apart_by_order : (xs ys : List Header) → IsPermutation xs ys → IsNonDecreasingBy (λ h. h.vaddr) ys → All (λ h. 0 < h.memsz) xs → are_all_apart xs ≡ rises_from 0 ys
apart_by_order xs ys perm up some =
    same_test (are_all_apart xs) (rises_from 0 ys)
    (λ apart. rise_from_apart 0 ys
    (each_from (λ k. 0 < k.memsz) ys (All-permutation (λ h. 0 < h.memsz) xs ys perm some)) (rising_from ys up) (above_zero ys)
    (permuted_apart xs ys perm apart))
    (λ rise. permuted_apart ys xs (IsPermutation-sym xs ys perm) (apart_from_rise 0 ys rise))
