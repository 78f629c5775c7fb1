-- The sequences of words that rows are put together from.
use Rattle.std.specs.Prelude.{ℕ, zero, suc, ◌+◌, ◌-◌, ◌*◌, Option, Some, None, List, [], ◌∷◌, ◌++◌, nat_lt, nat_eq, if◌then◌else◌}
use Rattle.th_rv.specs.declared.instr.Instr.TheVariants.{Jal, Lw, Sw, Addi, Beq, Ecall}
use Rattle.th_abi.specs.declared.word.RelocKind.{RelocKind}
use Rattle.th_abi.specs.declared.word.RelocKind.TheVariants as reloc
use Rattle.th_abi.specs.declared.word.Failure.{Failure}
use Rattle.th_abi.specs.declared.word.PatternWord.{PatternWord}
use Rattle.th_abi.specs.declared.word.Home.{Home}
use Rattle.th_abi.specs.declared.word.Home.TheVariants.{Register, Frame}
use Rattle.th_abi.specs.Registers as register
use Rattle.th_abi.specs.Words.{plain, address, jump}

-- where a place of the running unit's stack stands: the six lowest in registers 18 to 23, the others in the frame
abbrev pub home : ℕ → Home
home place = if nat_lt place 6 then Register (18 + place) else Frame place

-- the register that has a word of the stack once it was fetched, which is the given one where the word stands in the frame
abbrev pub register_of : Home → ℕ → ℕ
register_of (Register r) free = r
register_of (Frame k) free = free

abbrev pub operand : (place free : ℕ) → ℕ
operand place free = register_of (home place) free

-- a word of the stack is fetched into its register
abbrev pub fetched : Home → ℕ → List PatternWord
fetched (Register r) free = []
fetched (Frame k) free = plain (Lw free register.stack (4 * k)) ∷ []

abbrev pub fetch : (place free : ℕ) → List PatternWord
fetch place free = fetched (home place) free

-- a result that was computed in its register is kept on the stack
abbrev pub kept : Home → ℕ → List PatternWord
kept (Register r) free = []
kept (Frame k) free = plain (Sw register.stack free (4 * k)) ∷ []

abbrev pub keep : (place free : ℕ) → List PatternWord
keep place free = kept (home place) free

-- a register's word is put on the stack
abbrev pub moved : Home → ℕ → PatternWord
moved (Register r) from = plain (Addi r from 0)
moved (Frame k) from = plain (Sw register.stack from (4 * k))

abbrev pub move_to : (place from : ℕ) → PatternWord
move_to place from = moved (home place) from

-- a word of the stack is put into a register
abbrev pub taken : Home → ℕ → PatternWord
taken (Register r) into = plain (Addi into r 0)
taken (Frame k) into = plain (Lw into register.stack (4 * k))

abbrev pub take_from : (place into : ℕ) → PatternWord
take_from place into = taken (home place) into

-- the address that a relocation gives is put into a register: it stands in the code, and the first word leads past it
abbrev pub literal : ℕ → RelocKind → Option Failure → List PatternWord
literal r kind failure = plain (Jal r 8) ∷ address kind failure ∷ plain (Lw r r 0) ∷ []

-- a failure: its exception becomes the status, and its label is next. With heights of the stack known, nothing empties it
abbrev pub fail : Failure → List PatternWord
fail failure = literal register.status reloc.Word (Some failure) ++ jump

-- a status goes to the label
abbrev pub unless_fine : List PatternWord
unless_fine = plain (Beq register.status 0 12) ∷ jump

-- an environment call of a number
abbrev pub environment : ℕ → List PatternWord
environment number = plain (Addi register.call_number 0 number) ∷ plain Ecall ∷ []
