-- The rows of ways, calls, exceptions and loop bodies.
use Rattle.std.specs.Prelude.{ℕ, zero, suc, ◌+◌, ◌-◌, ◌*◌, Bool, true, false, Some, None, List, [], ◌∷◌, ◌++◌, nat_eq, nat_lt, if◌then◌else◌}
use Rattle.th_rv.specs.declared.instr.Instr.TheVariants.{Jalr, Lw, Sw, Addi, Beq, Bne}
use Rattle.th_abi.specs.declared.word.RelocKind.TheVariants as reloc
use Rattle.th_abi.specs.declared.word.PatternWord.{PatternWord}
use Rattle.th_abi.specs.declared.word.Home.{Home}
use Rattle.th_abi.specs.declared.word.Home.TheVariants.{Register, Frame}
use Rattle.th_abi.specs.Registers as register
use Rattle.th_abi.specs.Words.{plain, jump}
use Rattle.th_abi.specs.Sequences.{home, operand, fetch, keep, move_to, take_from, literal, unless_fine}

-- no effect
abbrev pub nothing : List PatternWord
nothing = plain (Addi 0 0 0) ∷ []

abbrev pub unless_row : (height : ℕ) → List PatternWord
unless_row height = fetch (height - 1) register.free ++ (plain (Bne (operand (height - 1) register.free) 0 12) ∷ jump)

-- the value is put into the value word where f is 1
abbrev pub give_value : (f height : ℕ) → List PatternWord
give_value f height = if nat_eq f 1 then take_from (height - 1) register.value ∷ [] else []

-- the value word is pushed where f is 1
abbrev pub push_value : (f height : ℕ) → List PatternWord
push_value f height = if nat_eq f 1 then move_to height register.value ∷ [] else []

abbrev pub raise_row : (f height : ℕ) → List PatternWord
raise_row f height = give_value f height ++ (literal register.status reloc.Word None ++ jump)

-- past the jump where the status is this exception
abbrev pub is_row : List PatternWord
is_row = literal register.free reloc.Word None ++ (plain (Beq register.status register.free 12) ∷ jump)

abbrev pub caught_row : (f height : ℕ) → List PatternWord
caught_row f height = plain (Addi register.status 0 0) ∷ push_value f height

-- the activation ends: its frame is given back, and what its header saved is restored
abbrev pub back : List PatternWord
back =
    plain (Addi register.top register.header 0) ∷ plain (Lw register.link register.header 0) ∷ plain (Lw register.locals register.header 4)
    ∷ plain (Lw register.stack register.header 8) ∷ plain (Lw register.header register.header 12) ∷ plain (Jalr 0 register.link 0) ∷ []

abbrev pub return_row : (f height : ℕ) → List PatternWord
return_row f height = give_value f height ++ (plain (Addi register.status 0 0) ∷ back)

abbrev pub stop_row : List PatternWord
stop_row = plain (Addi register.status 0 1) ∷ back

abbrev pub stopped_row : List PatternWord
stopped_row = plain (Addi register.free 0 1) ∷ plain (Beq register.status register.free 12) ∷ (jump ++ (plain (Addi register.status 0 0) ∷ []))

-- a place's register is saved in the frame where the stack is higher, and restored
abbrev pub save_one : (place height : ℕ) → List PatternWord
save_one place height = if nat_lt place height then plain (Sw register.stack (18 + place) (4 * place)) ∷ [] else []

abbrev pub restore_one : (place height : ℕ) → List PatternWord
restore_one place height = if nat_lt place height then plain (Lw (18 + place) register.stack (4 * place)) ∷ [] else []

-- the registers of a stack of this height
abbrev pub save : (height : ℕ) → List PatternWord
save height = save_one 0 height ++ (save_one 1 height ++ (save_one 2 height ++ (save_one 3 height ++ (save_one 4 height ++ save_one 5 height))))

abbrev pub restore : (height : ℕ) → List PatternWord
restore height = restore_one 0 height ++ (restore_one 1 height ++ (restore_one 2 height ++ (restore_one 3 height ++ (restore_one 4 height ++ restore_one 5 height))))

-- how many words a header has
abbrev pub header_words : ℕ
header_words = 6

-- an operand becomes local word i of the frame that is to be opened
abbrev pub passed : Home → ℕ → List PatternWord
passed (Register r) i = plain (Sw register.top r (4 * (header_words + i))) ∷ []
passed (Frame k) i = plain (Lw register.free register.stack (4 * k)) ∷ plain (Sw register.top register.free (4 * (header_words + i))) ∷ []

-- the first operands, which stand from a place on
abbrev pub pass_first : (place count : ℕ) → List PatternWord
pass_first place zero = []
pass_first place (suc i) = pass_first place i ++ passed (home (place + i)) i

-- before a call: what stays on the stack is saved, and the operands are passed
abbrev pub call_start : (below place n : ℕ) → List PatternWord
call_start below place n = save below ++ pass_first place n

-- after a call: its status goes to the label, what stayed on the stack is restored, and the value is pushed
abbrev pub call_end : (below f : ℕ) → List PatternWord
call_end below f = unless_fine ++ (restore below ++ push_value f below)

abbrev pub call_row : (n f height : ℕ) → List PatternWord
call_row n f height = call_start (height - n) (height - n) n ++ (literal register.free reloc.Unit None ++ (plain (Jalr register.link register.free 0) ∷ call_end (height - n) f))

-- the supply word stands below the operands
abbrev pub supply_row : (n f height : ℕ) → List PatternWord
supply_row n f height =
    call_start (height - n - 1) (height - n) n ++ (fetch (height - n - 1) register.free
    ++ (plain (Jalr register.link (operand (height - n - 1) register.free) 0) ∷ call_end (height - n - 1) f))

-- the loop body of the next call, with the frame at work as its home
abbrev pub body_row : List PatternWord
body_row = literal register.body reloc.Unit None ++ (plain (Addi register.home_locals register.locals 0) ∷ [])

abbrev pub unit_row : (height : ℕ) → List PatternWord
unit_row height = literal (operand height register.result) reloc.Unit None ++ keep height register.result

-- what stays on the stack is saved, and the value becomes the lowest word of the loop body's stack; the header before the frame's local words has the body and its home
abbrev pub yield_row : (height : ℕ) → List PatternWord
yield_row height =
    save (height - 1) ++ (take_from (height - 1) 18 ∷ plain (Lw register.free register.locals 4088) ∷ plain (Lw register.home_locals register.locals 4092)
    ∷ plain (Jalr register.link register.free 0) ∷ (unless_fine ++ restore (height - 1)))
