-- The definitions on words, by the signed numbers that the words spell.
use Rattle.std.proofs.Common.{◌≡◌, ℕ, zero, suc, ◌+◌, ◌-◌, ◌*◌, ◌/◌, ◌%◌, ◌^◌, ◌<◌, ◌≤◌, Bool, true, false, nat_eq, refl, sym, ap, ◌∙◌, subst, arith, rules, unsigned_abs, ℤ, pos, negsuc, ◌+ℤ◌, ◌-ℤ◌, ◌*ℤ◌, neg_ℤ, w32, w64, FitsSigned, to_z, of_z, int_div}
use Rattle.std.proofs.lemmas.Bool.{lt-ltb, le-ltb, cond-false}
use Rattle.std.proofs.lemmas.Int.{ints, to_z_pos, to_z-of_z, of_z-to_z, int_wrap_fits, wrapping_mul_is, wrapping_add-bits, wrapping_sub-bits, wrapping_mul-bits, fits_signed_mul, fits_signed_from_abs}
use Rattle.std.proofs.lemmas.Nat.{pow_pos, pow-add, div-mul-add, div-add-mod', mod_below, shr_le, mul-mod}
use Rattle.std.proofs.Math.Nat.{div-le_self}
use Rattle.std.specs.Prelude.{int_lt}
use Rattle.std.specs.Int.{int_shr, int_wrapping_div}
use Rattle.th_word.proofs.Words.{magnitude-le, divide-word}
use Rattle.th_word.specs.Word.{word_add, word_sub, multiply, signed_less, is_negative, extended, magnitude, with_sign, signs_differ, shift_right_signed, multiply_high, multiply_high_mixed, divide}

-- a word below 2 ^ 31 spells itself, and another one the number less by 2 ^ 32
pub signed-low : (a : ℕ) → a < 2 ^ 31 → to_z w32 a ≡ pos a
signed-low a h = to_z_pos w32 a h

pub signed-high : (a : ℕ) → 2 ^ 31 ≤ a → to_z w32 a ≡ negsuc (2 ^ 32 - suc a)
signed-high a h = cond-false _ _ _ (le-ltb a (2 ^ 31) h)

pub is_negative-low : (a : ℕ) → a < 2 ^ 31 → is_negative a ≡ false
is_negative-low a h = le-ltb (2 ^ 31 - 1) a (omega arith)

pub is_negative-high : (a : ℕ) → 2 ^ 31 ≤ a → is_negative a ≡ true
is_negative-high a h = lt-ltb (2 ^ 31 - 1) a (omega arith)

-- the sign-extended word is the 64-bit form of the signed number
pub extended-is : (a : ℕ) → a < 2 ^ 32 → extended a ≡ of_z w64 (to_z w32 a)
extended-is a h = grind (arith, ints)

-- the upper half of a number of 64 bits
pub shift_right-half : (z : ℤ) → FitsSigned w64 z → of_z w32 (int_shr z 32) ≡ of_z w64 z / 2 ^ 32
shift_right-half (pos n) h = refl
shift_right-half (negsuc n) h = grind arith

-- the 64-bit form of a product that fits
pub product-is : (x y : ℤ) → FitsSigned w64 x → FitsSigned w64 y → FitsSigned w64 (x *ℤ y) → of_z w64 (x *ℤ y) ≡ of_z w64 x * of_z w64 y % 2 ^ 64
product-is x y f g h =
    let e = wrapping_mul_is w64 x y f g ∙ int_wrap_fits w64 (x *ℤ y) h in
    sym (ap (of_z w64) e) ∙ of_z-to_z w64 (of_z w64 x * of_z w64 y % 2 ^ 64) (omega arith)

halves : (m n m' n' : ℕ) → m ≡ m' → n ≡ n' → m * n % 2 ^ 64 / 2 ^ 32 ≡ m' * n' % 2 ^ 64 / 2 ^ 32
halves m n m' n' e f = rw (e, f) refl

-- the word of -n
pub negated-is : (n : ℕ) → n < 2 ^ 32 → of_z w32 (neg_ℤ (pos n)) ≡ (2 ^ 32 - n) % 2 ^ 32
negated-is zero h = refl
negated-is (suc n) h = omega arith

-- whether a signed number is below zero
abbrev below_zero : ℤ → Bool
below_zero (pos n) = false
below_zero (negsuc n) = true

is_negative-is : (a : ℕ) → is_negative a ≡ below_zero (to_z w32 a)
is_negative-is a = grind (arith, ints)

magnitude-is : (a : ℕ) → a < 2 ^ 32 → magnitude a ≡ unsigned_abs (to_z w32 a)
magnitude-is a h = grind (arith, ints)

small_word : (a : ℕ) → a < 2 ^ 32 → unsigned_abs (to_z w32 a) ≤ 2 ^ 31
small_word a h = subst (λ m. m ≤ 2 ^ 31) (magnitude-is a h) (magnitude-le a h)

fits_word : (a : ℕ) → a < 2 ^ 32 → FitsSigned w32 (to_z w32 a)
fits_word a h = search rules

-- the quotient toward zero, by signs and absolute values
quotient-word : (x y : ℤ) → unsigned_abs x ≤ 2 ^ 31 → of_z w32 (int_div x y) ≡ with_sign (signs_differ (below_zero x) (below_zero y)) (unsigned_abs x / unsigned_abs y)
quotient-word (pos m) (pos n) h = refl
quotient-word (pos m) (negsuc n) h = negated-is (m / suc n) (omega (arith, div-le_self m (suc n)))
quotient-word (negsuc m) (pos n) h = negated-is (suc m / n) (omega (arith, div-le_self (suc m) n))
quotient-word (negsuc m) (negsuc n) h = refl

quotient-same : (s t s' t' : Bool) (m n m' n' : ℕ) → s ≡ s' → t ≡ t' → m ≡ m' → n ≡ n' → with_sign (signs_differ s t) (m / n) ≡ with_sign (signs_differ s' t') (m' / n')
quotient-same s t s' t' m n m' n' e1 e2 e3 e4 = rw (e1, e2, e3, e4) refl

pub divide-is : (a b : ℕ) → a < 2 ^ 32 → b < 2 ^ 32 → nat_eq b 0 ≡ false → of_z w32 (int_div (to_z w32 a) (to_z w32 b)) ≡ divide a b
divide-is a b h k e =
    quotient-word (to_z w32 a) (to_z w32 b) (small_word a h)
    ∙ sym (cond-false (nat_eq b 0) _ _ e ∙ quotient-same _ _ _ _ _ _ _ _ (is_negative-is a) (is_negative-is b) (magnitude-is a h) (magnitude-is b k))

-- a shift of a negative number: with n as q * p + r, and 2 ^ 32 as u * p
shifted-word : (n q r p u : ℕ) → n ≡ q * p + r → r < p → u * p ≡ 2 ^ 32 → q < 2 ^ 31 → n < 2 ^ 31 → 0 < u → 2 ^ 32 - suc q ≡ (2 ^ 64 - suc n) / p % 2 ^ 32
shifted-word n q r p u e l m k small up =
    let whole : 2 ^ 64 - suc n ≡ (u * 2 ^ 32 - suc q) * p + (p - suc r) = times (u * 2 ^ 32 - suc q) (omega arith) in
    let divided : (2 ^ 64 - suc n) / p ≡ u * 2 ^ 32 - suc q = ap (λ t. t / p) whole ∙ div-mul-add (u * 2 ^ 32 - suc q) p (p - suc r) (omega arith) in
    omega (arith, divided)
  where
    times : (v : ℕ) → v + suc q ≡ u * 2 ^ 32 → 2 ^ 64 - suc n ≡ v * p + (p - suc r)
    times v f = omega (arith, ap (λ t. t * p) f)

pub shift_right_signed-z : (z : ℤ) (k : ℕ) → k < 32 → FitsSigned w32 z → of_z w32 (int_shr z k) ≡ of_z w64 z / 2 ^ k % 2 ^ 32
shift_right_signed-z (pos n) k h f = omega (arith, shr_le n k, f.sfits)
shift_right_signed-z (negsuc n) k h f =
    let power : 2 ^ (32 - k) * 2 ^ k ≡ 2 ^ 32 = sym (pow-add 2 (32 - k) k) ∙ ap (λ t. 2 ^ t) {x = 32 - k + k} {y = 32} (omega arith) in
    let small : n < 2 ^ 31 = f.sfits in
    shifted-word n (n / 2 ^ k) (n % 2 ^ k) (2 ^ k) (2 ^ (32 - k)) (sym (div-add-mod' n (2 ^ k))) (mod_below n (2 ^ k) (pow_pos k)) power (omega (arith, shr_le n k)) small (pow_pos (32 - k))

-- what the code's casts around each operation come to

uncast : (n : ℕ) → n < 2 ^ 32 → of_z w32 (to_z w32 n) ≡ n
uncast n h = of_z-to_z w32 n h

spelled : (a : ℕ) (x : ℤ) → a < 2 ^ 32 → x ≡ to_z w32 a → of_z w32 x ≡ a
spelled a x h e = ap (of_z w32) e ∙ uncast a h

pub shift_right_signed-casts : (a k r : ℕ) (x y : ℤ) → a < 2 ^ 32 → x ≡ to_z w32 a → y ≡ int_shr (to_z w32 (of_z w32 x)) (k % 32) → r ≡ of_z w32 (to_z w32 (of_z w32 y)) → r ≡ shift_right_signed a k
shift_right_signed-casts a k r x y h e f g =
    let fits : FitsSigned w32 (to_z w32 a) = fits_word a h in
    let shifted : y ≡ int_shr (to_z w32 a) (k % 32) = f ∙ ap (λ n. int_shr (to_z w32 n) (k % 32)) (spelled a x h e) in
    let word : of_z w32 y ≡ shift_right_signed a k = ap (of_z w32) shifted ∙ shift_right_signed-z (to_z w32 a) (k % 32) (omega arith) fits ∙ ap (λ n. n / 2 ^ (k % 32) % 2 ^ 32) (sym (extended-is a h)) in
    g ∙ ap (λ n. of_z w32 (to_z w32 n)) word ∙ uncast (shift_right_signed a k) (omega arith)

pub divide-casts : (a b r : ℕ) (x y z : ℤ) → a < 2 ^ 32 → b < 2 ^ 32 → nat_eq b 0 ≡ false → x ≡ to_z w32 a → y ≡ to_z w32 b → z ≡ int_wrapping_div w32 (to_z w32 (of_z w32 x)) (to_z w32 (of_z w32 y)) → r ≡ of_z w32 (to_z w32 (of_z w32 z)) → r ≡ divide a b
divide-casts a b r x y z h k nz e f q g =
    let divided : z ≡ to_z w32 (divide a b) = q ∙ at (of_z w32 x) (of_z w32 y) (spelled a x h e) (spelled b y k f) ∙ ap (to_z w32) (divide-is a b h k nz) in
    let word : of_z w32 z ≡ divide a b = spelled (divide a b) z (divide-word a b h) divided in
    g ∙ ap (λ n. of_z w32 (to_z w32 n)) word ∙ uncast (divide a b) (divide-word a b h)
  where
    at : (m n : ℕ) → m ≡ a → n ≡ b → int_wrapping_div w32 (to_z w32 m) (to_z w32 n) ≡ to_z w32 (of_z w32 (int_div (to_z w32 a) (to_z w32 b)))
    at m n e f = rw (e, f) refl

product-fits : (x y : ℤ) → unsigned_abs x ≤ 2 ^ 31 → unsigned_abs y ≤ 2 ^ 32 - 1 → FitsSigned w64 x × FitsSigned w64 y × FitsSigned w64 (x *ℤ y)
product-fits x y h k = (fits_signed_from_abs w64 x (omega arith), fits_signed_from_abs w64 y (omega arith), fits_signed_mul w64 x y (2 ^ 31) (2 ^ 32 - 1) h k (omega arith))

product-of : (x y : ℤ) → unsigned_abs x ≤ 2 ^ 31 → unsigned_abs y ≤ 2 ^ 32 - 1 → of_z w64 (x *ℤ y) ≡ of_z w64 x * of_z w64 y % 2 ^ 64
product-of x y h k = let fits = product-fits x y h k in product-is x y fits.0 fits.1 fits.2

product-casts : (x y : ℤ) → unsigned_abs x ≤ 2 ^ 31 → unsigned_abs y ≤ 2 ^ 32 - 1 → of_z w64 (to_z w64 (of_z w64 (to_z w64 (of_z w64 x) *ℤ to_z w64 (of_z w64 y)))) ≡ of_z w64 x * of_z w64 y % 2 ^ 64
product-casts x y h k =
    let fits = product-fits x y h k in
    let once : to_z w64 (of_z w64 x) *ℤ to_z w64 (of_z w64 y) ≡ x *ℤ y = rw (to_z-of_z w64 x fits.0, to_z-of_z w64 y fits.1) refl in
    ap (λ z. of_z w64 (to_z w64 (of_z w64 z))) once ∙ ap (of_z w64) (to_z-of_z w64 (x *ℤ y) fits.2) ∙ product-of x y h k

pub multiply_high-casts : (a b r : ℕ) (x y : ℤ) → a < 2 ^ 32 → b < 2 ^ 32 → x ≡ to_z w32 a → y ≡ to_z w32 b → r ≡ of_z w64 (to_z w64 (of_z w64 (to_z w64 (of_z w64 x) *ℤ to_z w64 (of_z w64 y)))) / 2 ^ 32 → r ≡ multiply_high a b
multiply_high-casts a b r x y h k e f g =
    let ha : unsigned_abs x ≤ 2 ^ 31 = rw e (small_word a h) in
    let hb : unsigned_abs y ≤ 2 ^ 31 = rw f (small_word b k) in
    let ea : of_z w64 x ≡ extended a = ap (of_z w64) e ∙ sym (extended-is a h) in
    let eb : of_z w64 y ≡ extended b = ap (of_z w64) f ∙ sym (extended-is b k) in
    g ∙ ap (λ n. n / 2 ^ 32) (product-casts x y ha (omega arith)) ∙ halves _ _ _ _ ea eb

pub multiply_high_mixed-casts : (a b r : ℕ) (x : ℤ) → a < 2 ^ 32 → b < 2 ^ 32 → x ≡ to_z w32 a → r ≡ of_z w64 (to_z w64 (of_z w64 (to_z w64 (of_z w64 x) *ℤ to_z w64 b))) / 2 ^ 32 → r ≡ multiply_high_mixed a b
multiply_high_mixed-casts a b r x h k e g =
    let ha : unsigned_abs x ≤ 2 ^ 31 = rw e (small_word a h) in
    let ea : of_z w64 x ≡ extended a = ap (of_z w64) e ∙ sym (extended-is a h) in
    g ∙ ap (λ n. n / 2 ^ 32) (product-casts x (pos b) ha (omega arith)) ∙ halves _ _ _ _ ea refl

-- ---- for callers: the words of sums, differences, products and orders of signed numbers

pub word_add-fits : (a b : ℕ) → a < 2 ^ 32 → b < 2 ^ 32 → FitsSigned w32 (to_z w32 a +ℤ to_z w32 b) → to_z w32 (word_add a b) ≡ to_z w32 a +ℤ to_z w32 b
word_add-fits a b h k f = wrapping_add-bits w32 a b h k ∙ int_wrap_fits w32 _ f

pub word_sub-fits : (a b : ℕ) → a < 2 ^ 32 → b < 2 ^ 32 → FitsSigned w32 (to_z w32 a -ℤ to_z w32 b) → to_z w32 (word_sub a b) ≡ to_z w32 a -ℤ to_z w32 b
word_sub-fits a b h k f = wrapping_sub-bits w32 a b h k ∙ int_wrap_fits w32 _ f

pub multiply-fits : (a b : ℕ) → a < 2 ^ 32 → b < 2 ^ 32 → FitsSigned w32 (to_z w32 a *ℤ to_z w32 b) → to_z w32 (multiply a b) ≡ to_z w32 a *ℤ to_z w32 b
multiply-fits a b h k f = wrapping_mul-bits w32 a b h k ∙ int_wrap_fits w32 _ f

pub signed_less-is : (a b : ℕ) → a < 2 ^ 32 → b < 2 ^ 32 → signed_less a b ≡ int_lt (to_z w32 a) (to_z w32 b)
signed_less-is a b h k = grind (arith, ints)

-- the upper and the lower half of a product of signed numbers in 64 bits
pub multiply_high-is : (a b : ℕ) → a < 2 ^ 32 → b < 2 ^ 32 → multiply_high a b ≡ of_z w64 (to_z w32 a *ℤ to_z w32 b) / 2 ^ 32
multiply_high-is a b h k = sym (ap (λ n. n / 2 ^ 32) (product-of (to_z w32 a) (to_z w32 b) (small_word a h) (omega (arith, small_word b k))) ∙ halves _ _ _ _ (sym (extended-is a h)) (sym (extended-is b k)))

pub multiply-is : (a b : ℕ) → a < 2 ^ 32 → b < 2 ^ 32 → multiply a b ≡ of_z w64 (to_z w32 a *ℤ to_z w32 b) % 2 ^ 32
multiply-is a b h k =
    sym (ap (λ n. n % 2 ^ 32) (product-of (to_z w32 a) (to_z w32 b) (small_word a h) (omega (arith, small_word b k)) ∙ ap (λ n. n % 2 ^ 64) (ap (λ n. n * of_z w64 (to_z w32 b)) (sym (extended-is a h)) ∙ ap (λ n. extended a * n) (sym (extended-is b k)))) ∙ low a b)
  where
    of_double : (n : ℕ) → n % 2 ^ 64 % 2 ^ 32 ≡ n % 2 ^ 32
    of_double n = omega arith

    low_word : (m : ℕ) → extended m % 2 ^ 32 ≡ m % 2 ^ 32
    low_word m = grind arith

    same : (m n m' n' : ℕ) → m ≡ m' → n ≡ n' → m * n % 2 ^ 32 ≡ m' * n' % 2 ^ 32
    same m n m' n' e f = rw (e, f) refl

    low : (m n : ℕ) → extended m * extended n % 2 ^ 64 % 2 ^ 32 ≡ m * n % 2 ^ 32
    low m n = of_double (extended m * extended n) ∙ mul-mod (extended m) (extended n) (2 ^ 32) ∙ same _ _ _ _ (low_word m) (low_word n) ∙ sym (mul-mod m n (2 ^ 32))
