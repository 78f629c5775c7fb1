-- Each result is a word where the operands are words.
use Rattle.std.proofs.Common.{ℕ, ◌*◌, ◌/◌, ◌%◌, ◌^◌, ◌<◌, ◌≤◌, Bool, true, false, nat_eq, bit_and, bit_or, bit_xor, arith}
use Rattle.std.proofs.lemmas.Nat.{and_le_l, or_of_32, xor_of_32, shr_le, mul-lt}
use Rattle.std.proofs.lemmas.Bool.{cond_both}
use Rattle.std.proofs.Math.Nat.{div-le_self, mod-le}
use Rattle.th_word.specs.Word.{word_add, word_sub, biased, flag_word, extended, extend_8, extend_12, extend_13, extend_16, extend_21, shift_left, shift_right, shift_right_signed, multiply, multiply_high, multiply_high_mixed, multiply_high_unsigned, divide, divide_unsigned, remainder, remainder_unsigned, magnitude, with_sign}

pub word_add-word : (a b : ℕ) → word_add a b < 2 ^ 32
word_add-word a b = omega arith

pub word_sub-word : (a b : ℕ) → word_sub a b < 2 ^ 32
word_sub-word a b = omega arith

pub biased-word : (a : ℕ) → biased a < 2 ^ 32
biased-word a = omega arith

pub bit_and-word : (a b : ℕ) → a < 2 ^ 32 → bit_and a b < 2 ^ 32
bit_and-word a b h = omega (arith, and_le_l a b)

pub bit_or-word : (a b : ℕ) → a < 2 ^ 32 → b < 2 ^ 32 → bit_or a b < 2 ^ 32
bit_or-word a b h k = or_of_32 a b h k

pub bit_xor-word : (a b : ℕ) → a < 2 ^ 32 → b < 2 ^ 32 → bit_xor a b < 2 ^ 32
bit_xor-word a b h k = xor_of_32 a b h k

pub flag_word-word : (b : Bool) → flag_word b < 2 ^ 32
flag_word-word true = omega arith
flag_word-word false = omega arith

pub flag_word-le : (b : Bool) → flag_word b ≤ 1
flag_word-le true = omega arith
flag_word-le false = omega arith

pub extend_8-word : (n : ℕ) → n < 2 ^ 8 → extend_8 n < 2 ^ 32
extend_8-word n h = grind arith

pub extend_12-word : (n : ℕ) → n < 2 ^ 12 → extend_12 n < 2 ^ 32
extend_12-word n h = grind arith

pub extend_13-word : (n : ℕ) → n < 2 ^ 13 → extend_13 n < 2 ^ 32
extend_13-word n h = grind arith

pub extend_16-word : (n : ℕ) → n < 2 ^ 16 → extend_16 n < 2 ^ 32
extend_16-word n h = grind arith

pub extend_21-word : (n : ℕ) → n < 2 ^ 21 → extend_21 n < 2 ^ 32
extend_21-word n h = grind arith

pub extended-double : (a : ℕ) → a < 2 ^ 32 → extended a < 2 ^ 64
extended-double a h = grind arith

pub shift_left-word : (a b : ℕ) → shift_left a b < 2 ^ 32
shift_left-word a b = omega arith

pub shift_right-word : (a b : ℕ) → a < 2 ^ 32 → shift_right a b < 2 ^ 32
shift_right-word a b h = omega (arith, shr_le a (b % 32))

pub shift_right_signed-word : (a b : ℕ) → shift_right_signed a b < 2 ^ 32
shift_right_signed-word a b = omega arith

pub multiply-word : (a b : ℕ) → multiply a b < 2 ^ 32
multiply-word a b = omega arith

pub multiply_high-word : (a b : ℕ) → multiply_high a b < 2 ^ 32
multiply_high-word a b = half (extended a * extended b)
  where
    half : (n : ℕ) → n % 2 ^ 64 / 2 ^ 32 < 2 ^ 32
    half n = omega arith

pub multiply_high_mixed-word : (a b : ℕ) → multiply_high_mixed a b < 2 ^ 32
multiply_high_mixed-word a b = half (extended a * b)
  where
    half : (n : ℕ) → n % 2 ^ 64 / 2 ^ 32 < 2 ^ 32
    half n = omega arith

pub multiply_high_unsigned-word : (a b : ℕ) → a < 2 ^ 32 → b < 2 ^ 32 → multiply_high_unsigned a b < 2 ^ 32
multiply_high_unsigned-word a b h k = omega (arith, mul-lt a b (2 ^ 32) (2 ^ 32) h k)

-- the absolute value of a word's number
pub magnitude-le : (a : ℕ) → a < 2 ^ 32 → magnitude a ≤ 2 ^ 31
magnitude-le a h = grind arith

pub with_sign-word : (s : Bool) (n : ℕ) → n < 2 ^ 32 → with_sign s n < 2 ^ 32
with_sign-word true n h = omega arith
with_sign-word false n h = h

quotient-small : (m n : ℕ) → m ≤ 2 ^ 31 → m / n < 2 ^ 32
quotient-small m n h = omega (arith, div-le_self m n)

remainder-small : (m n : ℕ) → m ≤ 2 ^ 31 → m % n < 2 ^ 32
remainder-small m n h = omega (arith, mod-le m n)

pub divide-word : (a b : ℕ) → a < 2 ^ 32 → divide a b < 2 ^ 32
divide-word a b h = cond_both (nat_eq b 0) _ _ (λ n. n < 2 ^ 32) (λ e. omega arith) (λ e. with_sign-word _ _ (quotient-small (magnitude a) (magnitude b) (magnitude-le a h)))

pub divide_unsigned-word : (a b : ℕ) → a < 2 ^ 32 → divide_unsigned a b < 2 ^ 32
divide_unsigned-word a b h = cond_both (nat_eq b 0) _ _ (λ n. n < 2 ^ 32) (λ e. omega arith) (λ e. omega (arith, div-le_self a b))

pub remainder-word : (a b : ℕ) → a < 2 ^ 32 → remainder a b < 2 ^ 32
remainder-word a b h = cond_both (nat_eq b 0) _ _ (λ n. n < 2 ^ 32) (λ e. h) (λ e. with_sign-word _ _ (remainder-small (magnitude a) (magnitude b) (magnitude-le a h)))

pub remainder_unsigned-word : (a b : ℕ) → a < 2 ^ 32 → remainder_unsigned a b < 2 ^ 32
remainder_unsigned-word a b h = cond_both (nat_eq b 0) _ _ (λ n. n < 2 ^ 32) (λ e. h) (λ e. omega (arith, mod-le a b))
