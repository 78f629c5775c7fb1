-- Products, quotients and remainders of words as signed numbers.
use Rattle.std.proofs.Common.{◌≡◌, ℕ, zero, suc, ◌-◌, ◌*◌, ◌/◌, ◌%◌, ◌^◌, ◌<◌, ◌≤◌, Bool, true, false, nat_eq, refl, sym, ap, ◌∙◌, subst, ◌⊎◌, inl, inr, ⊎_elim, arith, rules, unsigned_abs, w32, w64, FitsSigned, to_z, of_z, int_div, int_rem}
use Rattle.std.proofs.Math.IntN.{ℤ, pos, negsuc, ◌*ℤ◌, neg_ℤ}
use Rattle.std.proofs.lemmas.Bool.{cases_eq, cases_lt, lt-ltb, le-ltb, ltb-true, ltb-false, ne_eqb, cond-false, false≢true}
use Rattle.std.proofs.lemmas.Int.{ints, to_z-of_z, fits_signed_mul, fits_signed_from_abs, rem_below}
use Rattle.std.proofs.lemmas.Nat.{div-add-mod'}
use Rattle.std.proofs.Math.Nat.{div-le_self, mod-le, mul-le-mul_left}
use Rattle.th_word.specs.Word.{multiply, multiply_high, shift_right_signed, divide, remainder, is_negative, magnitude, with_sign}
use Rattle.th_word.proofs.TwosComplement.{multiply-fits, multiply-is, multiply_high-is, divide-is}
use Rattle.th_word.proofs.Words.{divide-word, remainder-word}
use Rattle.th_meaning.specs.World.{fits_word, is_zero}
use Rattle.th_flat.specs.Values.{signed}
use Rattle.th_stands.proofs.Signed.{signed_is, signed_low, signed_high, signed_one}

fits_signed : (z : ℤ) → fits_word z ≡ true → FitsSigned w32 z
fits_signed (pos n) e = record { sfits = ltb-true n 2147483648 e }
fits_signed (negsuc n) e = record { sfits = ltb-true n 2147483648 e }

-- a word's number as the library has it
spelled : (x y : ℕ) (f : ℤ → ℤ → ℤ) → x < 4294967296 → y < 4294967296 → f (signed x) (signed y) ≡ f (to_z w32 x) (to_z w32 y)
spelled x y f lx ly = ap (λ z. f z (signed y)) (signed_is x lx) ∙ ap (λ z. f (to_z w32 x) z) (signed_is y ly)

pub product_value : (x y : ℕ) → x < 4294967296 → y < 4294967296 → fits_word (signed x *ℤ signed y) ≡ true → signed (multiply x y) ≡ signed x *ℤ signed y
product_value x y lx ly e =
    let same = spelled x y (λ a b. a *ℤ b) lx ly in
    signed_is (multiply x y) (omega arith) ∙ multiply-fits x y lx ly (fits_signed _ (ap fits_word (sym same) ∙ e)) ∙ sym same

-- the sign of a word in each of its bits
sign_low : (a : ℕ) → a < 2147483648 → shift_right_signed a 31 ≡ 0
sign_low a l = let e : is_negative a ≡ false = le-ltb 2147483647 a (omega arith) in rw e (omega arith)

sign_high : (a : ℕ) → 2147483648 ≤ a → a < 4294967296 → shift_right_signed a 31 ≡ 4294967295
sign_high a l k = let e : is_negative a ≡ true = lt-ltb 2147483647 a (omega arith) in rw e (omega arith)

-- a number that fits one word has its sign in the upper half of its two words
halves_fit : (z : ℤ) → fits_word z ≡ true → of_z w64 z / 4294967296 ≡ shift_right_signed (of_z w64 z % 4294967296) 31
halves_fit (pos n) e = let l = ltb-true n 2147483648 e in omega arith ∙ sym (sign_low (n % 4294967296) (omega arith))
halves_fit (negsuc n) e = let l = ltb-true n 2147483648 e in omega arith ∙ sym (sign_high (of_z w64 (negsuc n) % 4294967296) (omega arith) (omega arith))

-- any other one has not
halves_misfit : (z : ℤ) → FitsSigned w64 z → fits_word z ≡ false → of_z w64 z / 4294967296 ≡ shift_right_signed (of_z w64 z % 4294967296) 31 → ⊥
halves_misfit (pos n) f e q = let l = ltb-false n 2147483648 e in let k = f.sfits in ⊎_elim (λ s. low s) (λ s. high s) (cases_lt (n % 4294967296) 2147483648)
  where
    low : n % 4294967296 < 2147483648 → ⊥
    low s = let l = ltb-false n 2147483648 e in let k = f.sfits in let z = sign_low (n % 4294967296) s in omega (arith, q, z)

    high : 2147483648 ≤ n % 4294967296 → ⊥
    high s = let l = ltb-false n 2147483648 e in let k = f.sfits in let z = sign_high (n % 4294967296) s (omega arith) in omega (arith, q, z)
halves_misfit (negsuc n) f e q = ⊎_elim (λ s. low s) (λ s. high s) (cases_lt (of_z w64 (negsuc n) % 4294967296) 2147483648)
  where
    low : of_z w64 (negsuc n) % 4294967296 < 2147483648 → ⊥
    low s = let l = ltb-false n 2147483648 e in let k = f.sfits in let z = sign_low (of_z w64 (negsuc n) % 4294967296) s in omega (arith, q, z)

    high : 2147483648 ≤ of_z w64 (negsuc n) % 4294967296 → ⊥
    high s = let l = ltb-false n 2147483648 e in let k = f.sfits in let z = sign_high (of_z w64 (negsuc n) % 4294967296) s (omega arith) in omega (arith, q, z)

abs_is : (a : ℕ) → a < 4294967296 → unsigned_abs (to_z w32 a) ≤ 2147483648
abs_is a h = grind (arith, ints)

product_in_two : (x y : ℕ) → x < 4294967296 → y < 4294967296 → FitsSigned w64 (to_z w32 x *ℤ to_z w32 y)
product_in_two x y lx ly = fits_signed_mul w64 (to_z w32 x) (to_z w32 y) 2147483648 2147483648 (abs_is x lx) (abs_is y ly) (omega arith)

pub product_test : (x y : ℕ) → x < 4294967296 → y < 4294967296 → fits_word (signed x *ℤ signed y) ≡ true → multiply_high x y ≡ shift_right_signed (multiply x y) 31
product_test x y lx ly e =
    let same = spelled x y (λ a b. a *ℤ b) lx ly in
    multiply_high-is x y lx ly ∙ halves_fit (to_z w32 x *ℤ to_z w32 y) (ap fits_word (sym same) ∙ e) ∙ ap (λ n. shift_right_signed n 31) (sym (multiply-is x y lx ly))

pub product_fails : (x y : ℕ) → x < 4294967296 → y < 4294967296 → fits_word (signed x *ℤ signed y) ≡ false → multiply_high x y ≡ shift_right_signed (multiply x y) 31 → ⊥
product_fails x y lx ly e q =
    let same = spelled x y (λ a b. a *ℤ b) lx ly in
    halves_misfit (to_z w32 x *ℤ to_z w32 y) (product_in_two x y lx ly) (ap fits_word (sym same) ∙ e)
    (sym (multiply_high-is x y lx ly) ∙ q ∙ ap (λ n. shift_right_signed n 31) (multiply-is x y lx ly))

-- quotients

pub zero_signed : (y : ℕ) → y < 4294967296 → is_zero (signed y) ≡ true → y ≡ 0
zero_signed y l e = ⊎_elim low high (cases_lt y 2147483648)
  where
    low : y < 2147483648 → y ≡ 0
    low s = by (cases_eq y 0)
      where
        by : (y ≡ 0) ⊎ (y ≡ 0 → ⊥) → y ≡ 0
        by (inl q) = q
        by (inr ne) = absurd (false≢true (sym (ne_eqb y 0 ne) ∙ ap is_zero (sym (signed_low y s)) ∙ e))

    high : 2147483648 ≤ y → y ≡ 0
    high s = absurd (false≢true (ap is_zero (sym (signed_high y s)) ∙ e))

pub nonzero_signed : (y : ℕ) → is_zero (signed y) ≡ false → y ≡ 0 → ⊥
nonzero_signed zero e q = false≢true (sym e)
nonzero_signed (suc y) e q = omega arith

pub quotient_value : (x y : ℕ) → x < 4294967296 → y < 4294967296 → (y ≡ 0 → ⊥) → fits_word (int_div (signed x) (signed y)) ≡ true → signed (divide x y) ≡ int_div (signed x) (signed y)
quotient_value x y lx ly nz e =
    let same = spelled x y int_div lx ly in
    let is = divide-is x y lx ly (ne_eqb y 0 nz) in
    let f = fits_signed (int_div (to_z w32 x) (to_z w32 y)) (ap fits_word (sym same) ∙ e) in
    signed_is (divide x y) (divide-word x y lx) ∙ ap (to_z w32) (sym is) ∙ to_z-of_z w32 (int_div (to_z w32 x) (to_z w32 y)) f ∙ sym same

-- the one quotient that doesn't fit
half_at_most : (m k : ℕ) → suc m / suc (suc k) * 2 ≤ suc m
half_at_most m k =
    let two : 2 ≤ suc (suc k) = omega arith in
    let split = div-add-mod' (suc m) (suc (suc k)) in
    let more = mul-le-mul_left (suc m / suc (suc k)) two in
    omega arith

only_over : (a b : ℤ) → FitsSigned w32 a → fits_word (int_div a b) ≡ false → (a ≡ negsuc 2147483647) × (b ≡ negsuc 0)
only_over (pos m) (pos n) f e = let k = f.sfits in let l = ltb-false (m / n) 2147483648 e in absurd (omega (arith, div-le_self m n))
only_over (pos m) (negsuc n) f e = absurd (small (m / suc n) (below m n f.sfits) e)
  where
    below : (m n : ℕ) → m < 2147483648 → m / suc n < 2147483648
    below m n k = omega (arith, div-le_self m (suc n))

    small : (q : ℕ) → q < 2147483648 → fits_word (neg_ℤ (pos q)) ≡ false → ⊥
    small zero l e = false≢true (sym e)
    small (suc q) l e = let k = ltb-false q 2147483648 e in omega arith
only_over (negsuc m) (pos n) f e = absurd (small (suc m / n) (below m n f.sfits) e)
  where
    below : (m n : ℕ) → m < 2147483648 → suc m / n ≤ 2147483648
    below m n k = omega (arith, div-le_self (suc m) n)

    small : (q : ℕ) → q ≤ 2147483648 → fits_word (neg_ℤ (pos q)) ≡ false → ⊥
    small zero l e = false≢true (sym e)
    small (suc q) l e = let k = ltb-false q 2147483648 e in omega arith
only_over (negsuc m) (negsuc zero) f e =
    let k = f.sfits in
    let l = ltb-false (suc m / 1) 2147483648 e in
    let is : m ≡ 2147483647 = omega arith in
    (ap negsuc is, refl)
only_over (negsuc m) (negsuc (suc n)) f e = let k = f.sfits in let l = ltb-false (suc m / suc (suc n)) 2147483648 e in let h = half_at_most m n in absurd (omega arith)

word_fits : (a : ℕ) → a < 2 ^ 32 → FitsSigned w32 (to_z w32 a)
word_fits a h = search rules

pub quotient_over : (x y : ℕ) → x < 4294967296 → y < 4294967296 → fits_word (int_div (signed x) (signed y)) ≡ false → (x ≡ 2147483648) × (y ≡ 4294967295)
quotient_over x y lx ly e =
    let o = only_over (signed x) (signed y) (subst (FitsSigned w32) (sym (signed_is x lx)) (word_fits x lx)) e in
    (signed_one x 2147483648 lx (omega arith) o.0, signed_one y 4294967295 ly (omega arith) o.1)

pub quotient_fits : (x y : ℕ) → fits_word (int_div (signed x) (signed y)) ≡ true → x ≡ 2147483648 → y ≡ 4294967295 → ⊥
quotient_fits x y e q r = false≢true (sym (ap (λ a. fits_word (int_div (signed a) (signed 4294967295))) q) ∙ sym (ap (λ b. fits_word (int_div (signed x) (signed b))) r) ∙ e)

-- remainders

abbrev below_zero : ℤ → Bool
below_zero (pos n) = false
below_zero (negsuc n) = true

negative_is : (a : ℕ) → is_negative a ≡ below_zero (to_z w32 a)
negative_is a = grind (arith, ints)

magnitude_is : (a : ℕ) → a < 2 ^ 32 → magnitude a ≡ unsigned_abs (to_z w32 a)
magnitude_is a h = grind (arith, ints)

negated_is : (n : ℕ) → n < 2 ^ 32 → of_z w32 (neg_ℤ (pos n)) ≡ (2 ^ 32 - n) % 2 ^ 32
negated_is zero h = refl
negated_is (suc n) h = omega arith

remainder_word : (a b : ℤ) → unsigned_abs a ≤ 2147483648 → of_z w32 (int_rem a b) ≡ with_sign (below_zero a) (unsigned_abs a % unsigned_abs b)
remainder_word (pos m) b h = refl
remainder_word (negsuc m) b h = negated_is (suc m % unsigned_abs b) (omega (arith, mod-le (suc m) (unsigned_abs b)))

remainder_is : (x y : ℕ) → x < 4294967296 → y < 4294967296 → (y ≡ 0 → ⊥) → of_z w32 (int_rem (to_z w32 x) (to_z w32 y)) ≡ remainder x y
remainder_is x y lx ly nz =
    remainder_word (to_z w32 x) (to_z w32 y) (abs_is x lx)
    ∙ sym (cond-false (nat_eq y 0) _ _ (ne_eqb y 0 nz) ∙ same _ _ _ _ _ _ (negative_is x) (magnitude_is x lx) (magnitude_is y ly))
  where
    same : (s s2 : Bool) (m n m2 n2 : ℕ) → s ≡ s2 → m ≡ m2 → n ≡ n2 → with_sign s (m % n) ≡ with_sign s2 (m2 % n2)
    same s s2 m n m2 n2 e f g = rw (e, f, g) refl

pub remainder_value : (x y : ℕ) → x < 4294967296 → y < 4294967296 → (y ≡ 0 → ⊥) → signed (remainder x y) ≡ int_rem (signed x) (signed y)
remainder_value x y lx ly nz =
    let same = spelled x y int_rem lx ly in
    let X = to_z w32 x in
    let Y = to_z w32 y in
    let some : 0 < unsigned_abs Y = omega (arith, sym (magnitude_is y ly), magnitude_some y nz ly) in
    let f : FitsSigned w32 (int_rem X Y) = fits_signed_from_abs w32 (int_rem X Y) (omega (arith, rem_below X Y some, abs_is y ly)) in
    signed_is (remainder x y) (remainder-word x y lx) ∙ ap (to_z w32) (sym (remainder_is x y lx ly nz)) ∙ to_z-of_z w32 (int_rem X Y) f ∙ sym same
  where
    magnitude_some : (y : ℕ) → (y ≡ 0 → ⊥) → y < 4294967296 → 0 < magnitude y
    magnitude_some zero nz l = absurd (nz refl)
    magnitude_some (suc y) nz l = grind arith
