-- Arithmetic and order of words as signed numbers.
use Rattle.std.proofs.Common.{◌≡◌, ℕ, zero, suc, ◌+◌, ◌-◌, ◌<◌, ◌≤◌, Bool, true, false, cond, nat_lt, refl, sym, ap, ◌∙◌, ◌⊎◌, inl, inr, ⊎_elim, arith, w32, to_z}
use Rattle.std.proofs.Math.IntN.{ℤ, pos, negsuc, ◌+ℤ◌, ◌-ℤ◌}
use Rattle.std.specs.Prelude.{int_lt, int_le, not, ◌≤ℤ◌, ◌<ℤ◌}
use Rattle.std.specs.Ordering.{int_eq}
use Rattle.std.proofs.lemmas.Int.{ints}
use Rattle.std.proofs.lemmas.Bool.{cases_Bool, cases_lt, cases_eq, lt-ltb, le-ltb, ltb-true, ltb-false, false≢true}
use Rattle.std.proofs.lemmas.Bool.Decides.{Decides-int_eq}
use Rattle.th_word.specs.Word.{word_add, word_sub, biased, signed_less, flag_word}
use Rattle.th_word.proofs.TwosComplement.{signed-low, signed-high, signed_less-is}
use Rattle.th_meaning.specs.World.{fits_word}
use Rattle.th_flat.specs.Values.{signed}

pub signed_low : (a : ℕ) → a < 2147483648 → signed a ≡ pos a
signed_low a l = let e : nat_lt a 2147483648 ≡ true = lt-ltb a 2147483648 l in rw e

pub signed_high : (a : ℕ) → 2147483648 ≤ a → signed a ≡ negsuc (4294967295 - a)
signed_high a l = let e : nat_lt a 2147483648 ≡ false = le-ltb a 2147483648 l in rw e

-- a word's signed number is the number plus 2 ^ 31, less 2 ^ 31
pub biased_is : (a : ℕ) → a < 4294967296 → signed a +ℤ pos 2147483648 ≡ pos (biased a)
biased_is a lt = ⊎_elim low high (cases_lt a 2147483648)
  where
    low : a < 2147483648 → signed a +ℤ pos 2147483648 ≡ pos (biased a)
    low l = rw (signed_low a l) (omega (arith, ints))

    high : 2147483648 ≤ a → signed a +ℤ pos 2147483648 ≡ pos (biased a)
    high l = rw (signed_high a l) (omega (arith, ints))

pub signed_is : (a : ℕ) → a < 4294967296 → signed a ≡ to_z w32 a
signed_is a lt = ⊎_elim (λ l. signed_low a l ∙ sym (signed-low a l)) high (cases_lt a 2147483648)
  where
    high : 2147483648 ≤ a → signed a ≡ to_z w32 a
    high l = signed_high a l ∙ ap negsuc (omega arith) ∙ sym (signed-high a l)

pub signed_one : (a b : ℕ) → a < 4294967296 → b < 4294967296 → signed a ≡ signed b → a ≡ b
signed_one a b la lb e =
    let x = biased_is a la in
    let y = biased_is b lb in
    let z : pos (biased a) ≡ pos (biased b) = sym x ∙ ap (λ n. n +ℤ pos 2147483648) e ∙ y in
    let z2 : biased a ≡ biased b = pos_one (biased a) (biased b) z in
    omega arith
  where
    pos_one : (m n : ℕ) → pos m ≡ pos n → m ≡ n
    pos_one m n q = cc

-- a number of the language lies between the bounds
pub fits_bounds : (z : ℤ) → fits_word z ≡ true → (negsuc 2147483647 ≤ℤ z) × (z <ℤ pos 2147483648)
fits_bounds (pos n) e = let l = ltb-true n 2147483648 e in (omega (arith, ints), omega (arith, ints))
fits_bounds (negsuc n) e = let l = ltb-true n 2147483648 e in (omega (arith, ints), omega (arith, ints))

pub misfits : (z : ℤ) → fits_word z ≡ false → (z <ℤ negsuc 2147483647) ⊎ (pos 2147483648 ≤ℤ z)
misfits (pos n) e = let l = ltb-false n 2147483648 e in inr (omega (arith, ints))
misfits (negsuc n) e = let l = ltb-false n 2147483648 e in inl (omega (arith, ints))

-- the signed number of a word by its biased form
pub by_bias : (a : ℕ) (z : ℤ) → a < 4294967296 → z +ℤ pos 2147483648 ≡ pos (biased a) → signed a ≡ z
by_bias a z lt e = let x = biased_is a lt in omega (arith, ints)

-- sums

sum_fits : (x y : ℕ) → x < 4294967296 → y < 4294967296 → fits_word (signed x +ℤ signed y) ≡ true → (2147483648 ≤ biased x + biased y) × (biased x + biased y < 6442450944)
sum_fits x y lx ly e =
    let b = fits_bounds (signed x +ℤ signed y) e in
    let bx = biased_is x lx in
    let by = biased_is y ly in
    (omega (arith, ints), omega (arith, ints))

sum_over : (x y : ℕ) → x < 4294967296 → y < 4294967296 → fits_word (signed x +ℤ signed y) ≡ false → (biased x + biased y < 2147483648) ⊎ (6442450944 ≤ biased x + biased y)
sum_over x y lx ly e =
    let bx = biased_is x lx in
    let by = biased_is y ly in
    ⊎_elim (λ l. inl (omega (arith, ints))) (λ l. inr (omega (arith, ints))) (misfits (signed x +ℤ signed y) e)

pub sum_value : (x y : ℕ) → x < 4294967296 → y < 4294967296 → fits_word (signed x +ℤ signed y) ≡ true → signed (word_add x y) ≡ signed x +ℤ signed y
sum_value x y lx ly e =
    let b = sum_fits x y lx ly e in
    let bx = biased_is x lx in
    let by = biased_is y ly in
    let is : biased (word_add x y) ≡ biased x + biased y - 2147483648 = omega arith in
    let back : biased x + biased y - 2147483648 + 2147483648 ≡ biased x + biased y = omega arith in
    by_bias (word_add x y) (signed x +ℤ signed y) (omega arith) (omega (arith, ints))

pub sum_test : (x y : ℕ) → x < 4294967296 → y < 4294967296 → fits_word (signed x +ℤ signed y) ≡ true → signed_less (word_add x y) x ≡ signed_less y 0
sum_test x y lx ly e = ⊎_elim below above (cases_lt (biased y) 2147483648)
  where
    below : biased y < 2147483648 → signed_less (word_add x y) x ≡ signed_less y 0
    below l = let b = sum_fits x y lx ly e in lt-ltb (biased (word_add x y)) (biased x) (omega arith) ∙ sym (lt-ltb (biased y) 2147483648 l)

    above : 2147483648 ≤ biased y → signed_less (word_add x y) x ≡ signed_less y 0
    above l = let b = sum_fits x y lx ly e in le-ltb (biased (word_add x y)) (biased x) (omega arith) ∙ sym (le-ltb (biased y) 2147483648 l)

pub sum_fails : (x y : ℕ) → x < 4294967296 → y < 4294967296 → fits_word (signed x +ℤ signed y) ≡ false → signed_less (word_add x y) x ≡ signed_less y 0 → ⊥
sum_fails x y lx ly e q = ⊎_elim low high (sum_over x y lx ly e)
  where
    low : biased x + biased y < 2147483648 → ⊥
    low l = false≢true (sym (le-ltb (biased (word_add x y)) (biased x) (omega arith)) ∙ q ∙ lt-ltb (biased y) 2147483648 (omega arith))

    high : 6442450944 ≤ biased x + biased y → ⊥
    high l = false≢true (sym (le-ltb (biased y) 2147483648 (omega arith)) ∙ sym q ∙ lt-ltb (biased (word_add x y)) (biased x) (omega arith))

-- differences

difference_fits : (x y : ℕ) → x < 4294967296 → y < 4294967296 → fits_word (signed x -ℤ signed y) ≡ true → (biased y ≤ biased x + 2147483648) × (biased x < biased y + 2147483648)
difference_fits x y lx ly e =
    let b = fits_bounds (signed x -ℤ signed y) e in
    let bx = biased_is x lx in
    let by = biased_is y ly in
    (omega (arith, ints), omega (arith, ints))

difference_over : (x y : ℕ) → x < 4294967296 → y < 4294967296 → fits_word (signed x -ℤ signed y) ≡ false → (biased x + 2147483648 < biased y) ⊎ (biased y + 2147483648 ≤ biased x)
difference_over x y lx ly e =
    let bx = biased_is x lx in
    let by = biased_is y ly in
    ⊎_elim (λ l. inl (omega (arith, ints))) (λ l. inr (omega (arith, ints))) (misfits (signed x -ℤ signed y) e)

pub difference_value : (x y : ℕ) → x < 4294967296 → y < 4294967296 → fits_word (signed x -ℤ signed y) ≡ true → signed (word_sub x y) ≡ signed x -ℤ signed y
difference_value x y lx ly e =
    let b = difference_fits x y lx ly e in
    let bx = biased_is x lx in
    let by = biased_is y ly in
    let is : biased (word_sub x y) + biased y ≡ biased x + 2147483648 = omega arith in
    by_bias (word_sub x y) (signed x -ℤ signed y) (omega arith) (omega (arith, ints))

pub difference_test : (x y : ℕ) → x < 4294967296 → y < 4294967296 → fits_word (signed x -ℤ signed y) ≡ true → signed_less (word_sub x y) x ≡ signed_less 0 y
difference_test x y lx ly e = ⊎_elim above below (cases_lt 2147483648 (biased y))
  where
    above : 2147483648 < biased y → signed_less (word_sub x y) x ≡ signed_less 0 y
    above l = let b = difference_fits x y lx ly e in lt-ltb (biased (word_sub x y)) (biased x) (omega arith) ∙ sym (lt-ltb 2147483648 (biased y) l)

    below : biased y ≤ 2147483648 → signed_less (word_sub x y) x ≡ signed_less 0 y
    below l = let b = difference_fits x y lx ly e in le-ltb (biased (word_sub x y)) (biased x) (omega arith) ∙ sym (le-ltb 2147483648 (biased y) l)

pub difference_fails : (x y : ℕ) → x < 4294967296 → y < 4294967296 → fits_word (signed x -ℤ signed y) ≡ false → signed_less (word_sub x y) x ≡ signed_less 0 y → ⊥
difference_fails x y lx ly e q = ⊎_elim low high (difference_over x y lx ly e)
  where
    low : biased x + 2147483648 < biased y → ⊥
    low l = false≢true (sym (le-ltb (biased (word_sub x y)) (biased x) (omega arith)) ∙ q ∙ lt-ltb 2147483648 (biased y) (omega arith))

    high : biased y + 2147483648 ≤ biased x → ⊥
    high l = false≢true (sym (le-ltb 2147483648 (biased y) (omega arith)) ∙ sym q ∙ lt-ltb (biased (word_sub x y)) (biased x) (omega arith))

-- order

-- a truth value is the word of its flag
pub truth_signed : (b : Bool) → signed (flag_word b) ≡ (cond b (pos 1) (pos 0))
truth_signed true = refl
truth_signed false = refl

pub less_is : (x y : ℕ) → x < 4294967296 → y < 4294967296 → signed_less x y ≡ int_lt (signed x) (signed y)
less_is x y lx ly = signed_less-is x y lx ly ∙ ap (λ z. int_lt z (to_z w32 y)) (sym (signed_is x lx)) ∙ ap (λ z. int_lt (signed x) z) (sym (signed_is y ly))

pub equal_is : (x y : ℕ) → x < 4294967296 → y < 4294967296 → nat_lt (word_sub x y) 1 ≡ int_eq (signed x) (signed y)
equal_is x y lx ly = ⊎_elim same other (cases_eq x y)
  where
    same : x ≡ y → nat_lt (word_sub x y) 1 ≡ int_eq (signed x) (signed y)
    same e = lt-ltb (word_sub x y) 1 (omega arith) ∙ sym ((Decides-int_eq (signed x) (signed y)).1 (ap signed e))

    other : (x ≡ y → ⊥) → nat_lt (word_sub x y) 1 ≡ int_eq (signed x) (signed y)
    other ne = le-ltb (word_sub x y) 1 (omega arith) ∙ sym (is_false (cases_Bool (int_eq (signed x) (signed y))))
      where
        is_false : (int_eq (signed x) (signed y) ≡ true) ⊎ (int_eq (signed x) (signed y) ≡ false) → int_eq (signed x) (signed y) ≡ false
        is_false (inl q) = absurd (ne (signed_one x y lx ly ((Decides-int_eq (signed x) (signed y)).0 q)))
        is_false (inr q) = q

pub differ_is : (x y : ℕ) → x < 4294967296 → y < 4294967296 → nat_lt 0 (word_sub x y) ≡ not (int_eq (signed x) (signed y))
differ_is x y lx ly = opposite (word_sub x y) ∙ ap not (equal_is x y lx ly)
  where
    opposite : (n : ℕ) → nat_lt 0 n ≡ not (nat_lt n 1)
    opposite zero = refl
    opposite (suc n) = lt-ltb 0 (suc n) (omega arith) ∙ ap not (sym (le-ltb (suc n) 1 (omega arith)))

-- the flag of the opposite test
pub flag_not : (b : Bool) → nat_lt (flag_word b) 1 ≡ not b
flag_not true = refl
flag_not false = refl

pub at_most_is : (x y : ℤ) → not (int_lt y x) ≡ int_le x y
at_most_is x y = grind (arith, ints)
