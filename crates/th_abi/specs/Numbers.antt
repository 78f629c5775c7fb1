-- The rows of operations on numbers and local words. A row's operands stand below its height: y at the topmost place, x below it.
use Rattle.std.specs.Prelude.{ℕ, zero, suc, Bool, true, false, ◌+◌, ◌-◌, ◌*◌, ◌/◌, ◌%◌, ◌^◌, List, [], ◌∷◌, ◌++◌, map, nat_lt, nat_le, ◌||◌, if◌then◌else◌}
use Rattle.th_rv.specs.declared.instr.Instr.{Instr}
use Rattle.th_rv.specs.declared.instr.Instr.TheVariants.{Lui, Lw, Sw, Addi, Add, Sub, Slt, Slti, Sltu, Sltiu, Srai, Mul, Mulh, Div, Rem, Beq, Bne}
use Rattle.th_abi.specs.declared.word.Failure.TheVariants.{Overflow, ZeroDivide}
use Rattle.th_abi.specs.declared.word.PatternWord.{PatternWord}
use Rattle.th_abi.specs.Registers as register
use Rattle.th_abi.specs.Words.{plain}
use Rattle.th_abi.specs.Sequences.{operand, fetch, keep, move_to, fail}

-- whether a word is a signed number of 12 bits
abbrev pub is_small : ℕ → Bool
is_small w = nat_lt w 2048 || nat_le (2 ^ 32 - 2048) w

-- the upper 20 bits of a word that is put together from them and the low 12 bits, which count with their sign
abbrev pub upper : ℕ → ℕ
upper w = (w + 2048) % 2 ^ 32 / 4096

abbrev pub lower : ℕ → ℕ
lower w = w % 4096

-- a word is put into a register
abbrev pub constant : (w into : ℕ) → List PatternWord
constant w into =
    if is_small w then plain (Addi into 0 (lower w)) ∷ []
    else plain (Lui register.result (upper w)) ∷ plain (Addi into register.result (lower w)) ∷ []

abbrev pub word_row : (w height : ℕ) → List PatternWord
word_row w height = constant w (operand height register.result) ++ keep height register.result

abbrev pub local_row : (k height : ℕ) → List PatternWord
local_row k height = plain (Lw (operand height register.result) register.locals (4 * k)) ∷ keep height register.result

abbrev pub set_row : (k height : ℕ) → List PatternWord
set_row k height = fetch (height - 1) register.free ++ plain (Sw register.locals (operand (height - 1) register.free) (4 * k)) ∷ []

-- the sum of two registers, and past the next five words where it fits: it is less than x exactly where y is negative
abbrev pub add_code : (x y : ℕ) → List PatternWord
add_code x y = plain (Add register.result x y) ∷ plain (Slt register.third register.result x) ∷ plain (Slti register.fourth y 0) ∷ plain (Beq register.third register.fourth 24) ∷ []

-- the difference, and past the next five words where it fits: it is less than x exactly where y is positive
abbrev pub subtract_code : (x y : ℕ) → List PatternWord
subtract_code x y = plain (Sub register.result x y) ∷ plain (Slt register.third register.result x) ∷ plain (Slt register.fourth 0 y) ∷ plain (Beq register.third register.fourth 24) ∷ []

-- the product, and past the next five words where it fits: its upper half repeats the sign of the lower
abbrev pub multiply_code : (x y : ℕ) → List PatternWord
multiply_code x y = plain (Mul register.result x y) ∷ plain (Mulh register.third x y) ∷ plain (Srai register.fourth register.result 31) ∷ plain (Beq register.third register.fourth 24) ∷ []

-- past the next five words where a register isn't 0
abbrev pub unless_zero : ℕ → List PatternWord
unless_zero y = plain (Bne y 0 24) ∷ []

-- past the next five words where a register isn't the least number
abbrev pub unless_least : ℕ → List PatternWord
unless_least x = plain (Lui register.third 0x80000) ∷ plain (Bne x register.third 24) ∷ []

-- past the next five words where the quotient fits: y isn't -1, or x isn't the least number
abbrev pub quotient_test : (x y : ℕ) → List PatternWord
quotient_test x y = plain (Addi register.third y 1) ∷ plain (Bne register.third 0 32) ∷ unless_least x

-- a division by zero fails
abbrev pub zero_test : (y : ℕ) → List PatternWord
zero_test y = unless_zero y ++ fail ZeroDivide

-- so does one whose quotient doesn't fit
abbrev pub overflow_test : (x y : ℕ) → List PatternWord
overflow_test x y = quotient_test x y ++ fail Overflow

-- the tests of a division
abbrev pub division_tests : (x y : ℕ) → List PatternWord
division_tests x y = zero_test y ++ overflow_test x y

-- a sum, a difference or a product
abbrev pub checked_code : (g x y : ℕ) → List PatternWord
checked_code zero x y = add_code x y
checked_code (suc zero) x y = subtract_code x y
checked_code (suc (suc g)) x y = multiply_code x y

abbrev pub checked_row : (g height : ℕ) → List PatternWord
checked_row g height =
    fetch (height - 2) register.free ++ (fetch (height - 1) register.second ++ (
    checked_code g (operand (height - 2) register.free) (operand (height - 1) register.second)
    ++ (fail Overflow ++ (move_to (height - 2) register.result ∷ []))))

-- a quotient, or else a remainder
abbrev pub division : Bool → (x y : ℕ) → PatternWord
division true x y = plain (Div register.result x y)
division false x y = plain (Rem register.result x y)

abbrev pub division_row : Bool → (height : ℕ) → List PatternWord
division_row is_quotient height =
    fetch (height - 2) register.free ++ (fetch (height - 1) register.second ++ (
    division_tests (operand (height - 2) register.free) (operand (height - 1) register.second)
    ++ (division is_quotient (operand (height - 2) register.free) (operand (height - 1) register.second) ∷ (move_to (height - 2) register.result ∷ []))))

-- the opposite
abbrev pub opposite_row : (height : ℕ) → List PatternWord
opposite_row height =
    fetch (height - 1) register.free ++ (unless_least (operand (height - 1) register.free)
    ++ (fail Overflow ++ (plain (Sub register.result 0 (operand (height - 1) register.free)) ∷ (move_to (height - 1) register.result ∷ []))))

abbrev pub arith_row : (g height : ℕ) → List PatternWord
arith_row zero height = checked_row 0 height
arith_row (suc zero) height = checked_row 1 height
arith_row (suc (suc zero)) height = checked_row 2 height
arith_row (suc (suc (suc zero))) height = division_row true height
arith_row (suc (suc (suc (suc zero)))) height = division_row false height
arith_row (suc (suc (suc (suc (suc g))))) height = opposite_row height

-- a comparison of two registers, into a third: equal, unequal, less, at most, greater, at least
abbrev pub compare_code : (g into x y : ℕ) → List PatternWord
compare_code zero into x y = plain (Sub register.result x y) ∷ plain (Sltiu into register.result 1) ∷ []
compare_code (suc zero) into x y = plain (Sub register.result x y) ∷ plain (Sltu into 0 register.result) ∷ []
compare_code (suc (suc zero)) into x y = plain (Slt into x y) ∷ []
compare_code (suc (suc (suc zero))) into x y = plain (Slt register.result y x) ∷ plain (Sltiu into register.result 1) ∷ []
compare_code (suc (suc (suc (suc zero)))) into x y = plain (Slt into y x) ∷ []
compare_code (suc (suc (suc (suc (suc g))))) into x y = plain (Slt register.result x y) ∷ plain (Sltiu into register.result 1) ∷ []

abbrev pub compare_row : (g height : ℕ) → List PatternWord
compare_row g height =
    fetch (height - 2) register.free ++ (fetch (height - 1) register.second ++ (
    compare_code g (operand (height - 2) register.result) (operand (height - 2) register.free) (operand (height - 1) register.second)
    ++ keep (height - 2) register.result))
