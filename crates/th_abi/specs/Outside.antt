-- The rows of operations that put and take bytes.
use Rattle.std.specs.Prelude.{ℕ, ◌+◌, ◌-◌, ◌*◌, Some, List, [], ◌∷◌, ◌++◌}
use Rattle.th_rv.specs.declared.instr.Instr.TheVariants.{Addi, Sub, Sltiu, Mul, Divu, Remu, Bne, Bge, Bltu, Jal, Ecall}
use Rattle.th_abi.specs.declared.word.Failure.TheVariants.{Bounds, EndOfInput}
use Rattle.th_abi.specs.declared.word.PatternWord.{PatternWord}
use Rattle.th_abi.specs.Registers as register
use Rattle.th_abi.specs.Words.{plain}
use Rattle.th_abi.specs.Sequences.{operand, fetch, move_to, take_from, fail, environment}

-- a number below 256 is put as a byte
abbrev pub put_byte_row : (height : ℕ) → List PatternWord
put_byte_row height =
    fetch (height - 1) register.free ++ (plain (Sltiu register.second (operand (height - 1) register.free) 256) ∷ plain (Bne register.second 0 24)
    ∷ (fail Bounds ++ (plain (Addi register.operand_word (operand (height - 1) register.free) 0) ∷ environment 1)))

-- a byte is taken; the call gives -1 where there is none
abbrev pub get_row : (height : ℕ) → List PatternWord
get_row height = environment 2 ++ (plain (Bge register.operand_word 0 24) ∷ (fail EndOfInput ++ (move_to height register.operand_word ∷ [])))

-- the absolute value of the number in `free`, whose sign `fourth` keeps, and the greatest power of ten that isn't above it (1 for 0) in `second`
abbrev pub power_code : List PatternWord
power_code =
    plain (Addi register.fourth register.free 0) ∷ plain (Bge register.free 0 8) ∷ plain (Sub register.free 0 register.free)
    ∷ plain (Addi register.third 0 10) ∷ plain (Addi register.second 0 1)
    ∷ plain (Divu register.result register.free register.second) ∷ plain (Bltu register.result register.third 12) ∷ plain (Mul register.second register.second register.third) ∷ plain (Jal 0 (2 * 1048576 - 12)) ∷ []

-- a minus sign is put before a negative number's digits
abbrev pub sign_code : List PatternWord
sign_code = plain (Addi register.call_number 0 1) ∷ plain (Bge register.fourth 0 12) ∷ plain (Addi register.operand_word 0 45) ∷ plain Ecall ∷ []

-- the digits are put, from the highest on
abbrev pub digits_code : List PatternWord
digits_code =
    plain (Divu register.result register.free register.second) ∷ plain (Addi register.operand_word register.result 48) ∷ plain Ecall
    ∷ plain (Remu register.free register.free register.second) ∷ plain (Divu register.second register.second register.third) ∷ plain (Bne register.second 0 (8192 - 20)) ∷ []

abbrev pub put_int_row : (height : ℕ) → List PatternWord
put_int_row height = take_from (height - 1) register.free ∷ (power_code ++ (sign_code ++ digits_code))
