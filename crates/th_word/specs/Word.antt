-- 32-bit words as numbers below 2 ^ 32, and the arithmetic of RV32IM on them. A word with its highest bit set spells a
-- negative number, in two's complement: the word a spells a - 2 ^ 32 where it is 2 ^ 31 or more.
use Rattle.std.specs.Prelude.{ℕ, ◌+◌, ◌-◌, ◌*◌, ◌/◌, ◌%◌, ◌^◌, Bool, true, false, nat_lt, nat_eq, cond}

-- the sum modulo 2 ^ 32
abbrev pub word_add : ℕ → ℕ → ℕ
word_add a b = (a + b) % 2 ^ 32

-- the difference modulo 2 ^ 32
abbrev pub word_sub : ℕ → ℕ → ℕ
word_sub a b = (a + (2 ^ 32 - b)) % 2 ^ 32

-- whether the word spells a negative number
abbrev pub is_negative : ℕ → Bool
is_negative a = nat_lt (2 ^ 31 - 1) a

-- the signed number that the word spells, plus 2 ^ 31
abbrev pub biased : ℕ → ℕ
biased a = (a + 2 ^ 31) % 2 ^ 32

-- whether a is less than b as signed numbers
abbrev pub signed_less : ℕ → ℕ → Bool
signed_less a b = nat_lt (biased a) (biased b)

-- 1 for true, 0 for false
abbrev pub flag_word : Bool → ℕ
flag_word true = 1
flag_word false = 0

-- a field of the given number of bits, sign-extended to a word
abbrev pub extend_field : ℕ → ℕ → ℕ
extend_field bits n = cond (nat_lt n (2 ^ (bits - 1))) n (n + (2 ^ 32 - 2 ^ bits))

-- a field of 8 bits, sign-extended to a word
abbrev pub extend_8 : ℕ → ℕ
extend_8 n = extend_field 8 n

-- a field of 12 bits, sign-extended to a word
abbrev pub extend_12 : ℕ → ℕ
extend_12 n = extend_field 12 n

-- a field of 13 bits, sign-extended to a word
abbrev pub extend_13 : ℕ → ℕ
extend_13 n = extend_field 13 n

-- a field of 16 bits, sign-extended to a word
abbrev pub extend_16 : ℕ → ℕ
extend_16 n = extend_field 16 n

-- a field of 21 bits, sign-extended to a word
abbrev pub extend_21 : ℕ → ℕ
extend_21 n = extend_field 21 n

-- the word sign-extended to 64 bits
abbrev pub extended : ℕ → ℕ
extended a = cond (is_negative a) (a + (2 ^ 64 - 2 ^ 32)) a

-- a shifted left by the low five bits of b
abbrev pub shift_left : ℕ → ℕ → ℕ
shift_left a b = a * 2 ^ (b % 32) % 2 ^ 32

-- a shifted right by the low five bits of b, filled up with zeros
abbrev pub shift_right : ℕ → ℕ → ℕ
shift_right a b = a / 2 ^ (b % 32)

-- a shifted right by the low five bits of b, filled up with its sign
abbrev pub shift_right_signed : ℕ → ℕ → ℕ
shift_right_signed a b = extended a / 2 ^ (b % 32) % 2 ^ 32

-- the low half of the product
abbrev pub multiply : ℕ → ℕ → ℕ
multiply a b = a * b % 2 ^ 32

-- the high half of the product of a and b as signed numbers
abbrev pub multiply_high : ℕ → ℕ → ℕ
multiply_high a b = extended a * extended b % 2 ^ 64 / 2 ^ 32

-- the high half of the product of a as a signed number and b as an unsigned number
abbrev pub multiply_high_mixed : ℕ → ℕ → ℕ
multiply_high_mixed a b = extended a * b % 2 ^ 64 / 2 ^ 32

-- the high half of the product of a and b as unsigned numbers
abbrev pub multiply_high_unsigned : ℕ → ℕ → ℕ
multiply_high_unsigned a b = a * b / 2 ^ 32

-- the absolute value of the signed number that the word spells
abbrev pub magnitude : ℕ → ℕ
magnitude a = cond (is_negative a) (2 ^ 32 - a) a

-- the word that spells -n for true, n for false
abbrev pub with_sign : Bool → ℕ → ℕ
with_sign true n = (2 ^ 32 - n) % 2 ^ 32
with_sign false n = n

-- whether exactly one of the two is true
abbrev pub signs_differ : Bool → Bool → Bool
signs_differ true b = cond b false true
signs_differ false b = b

-- the quotient of signed numbers, rounded toward zero; by zero it is all ones, and -2 ^ 31 by -1 is -2 ^ 31
abbrev pub divide : ℕ → ℕ → ℕ
divide a b = cond (nat_eq b 0) (2 ^ 32 - 1) (with_sign (signs_differ (is_negative a) (is_negative b)) (magnitude a / magnitude b))

-- the quotient of unsigned numbers, rounded down; by zero it is all ones
abbrev pub divide_unsigned : ℕ → ℕ → ℕ
divide_unsigned a b = cond (nat_eq b 0) (2 ^ 32 - 1) (a / b)

-- the remainder of signed numbers, with the sign of a; by zero it is a, and of -2 ^ 31 by -1 it is 0
abbrev pub remainder : ℕ → ℕ → ℕ
remainder a b = cond (nat_eq b 0) a (with_sign (is_negative a) (magnitude a % magnitude b))

-- the remainder of unsigned numbers; by zero it is a
abbrev pub remainder_unsigned : ℕ → ℕ → ℕ
remainder_unsigned a b = cond (nat_eq b 0) a (a % b)
