-- What one instruction does to registers, program counter and memory.
use Rattle.std.specs.Prelude.{ℕ, zero, suc, ◌*◌, ◌/◌, ◌%◌, List, Option, Some, None, Bool, true, false, nat_lt, nat_le, nat_eq, cond, slice_set, slice_index, bit_and, bit_or, bit_xor}
use Rattle.th_word.specs.Word.{word_add, word_sub, signed_less, flag_word, extend_8, extend_12, extend_13, extend_16, extend_21, shift_left, shift_right, shift_right_signed, multiply, multiply_high, multiply_high_mixed, multiply_high_unsigned, divide, divide_unsigned, remainder, remainder_unsigned}
use Rattle.th_rv.specs.declared.instr.Instr.{Instr}
use Rattle.th_rv.specs.declared.instr.Instr.TheVariants.{Lui, Auipc, Jal, Jalr, Beq, Bne, Blt, Bge, Bltu, Bgeu, Lb, Lh, Lw, Lbu, Lhu, Sb, Sh, Sw, Addi, Slti, Sltiu, Xori, Ori, Andi, Slli, Srli, Srai, Add, Sub, Sll, Slt, Sltu, Xor, Srl, Sra, Or, And, Mul, Mulh, Mulhsu, Mulhu, Div, Divu, Rem, Remu, Fence, Ecall, Ebreak}
use Rattle.th_rv.specs.declared.instr.Cause.{Cause}
use Rattle.th_rv.specs.declared.instr.Cause.TheVariants as cause
use Rattle.th_rv.specs.Memory.{Area, number_at, put_number, bytes_at}
use Rattle.th_rv.specs.Table.{decode}

-- the program counter, the 32 registers and the memory
pub record State : Type 0 where
  pub pc : ℕ
  pub regs : List ℕ
  pub areas : List Area

-- how a run comes to its end by an environment call: it ended, it raised (place and length of the
-- exception's name), it stopped for room
pub data Halt : Type 0 where
  Ended : Halt
  Raised : (at length : ℕ) → Halt
  RoomUsed : Halt

-- what one instruction does: go on, put a byte and go on, ask for a byte and go on with it in a0, come
-- to an end, or trap
pub data Act : Type 0 where
  Next : State → Act
  Puts : ℕ → State → Act
  Gets : State → Act
  Halts : Halt → State → Act
  Traps : Cause → Act

-- a register's word; register 0 reads 0
abbrev pub reg : List ℕ → ℕ → ℕ
reg l zero = 0
reg l (suc r) = slice_index l (suc r)

-- the registers with one written; register 0 isn't written
abbrev pub set_reg : List ℕ → ℕ → ℕ → List ℕ
set_reg l zero v = l
set_reg l (suc r) v = slice_set l (suc r) v

-- the state at the next instruction, with a register written
unfoldable pub with_reg : State → ℕ → ℕ → State
with_reg s rd v = record { pc = word_add s.pc 4; regs = set_reg s.regs rd v; areas = s.areas }

-- the state at the next instruction, with n bytes of memory written
unfoldable pub with_number : ℕ → State → ℕ → ℕ → State
with_number n s a v = record { pc = word_add s.pc 4; regs = s.regs; areas = put_number n s.areas a v }

-- the state at a target, with a register written
unfoldable pub jumped : State → ℕ → ℕ → ℕ → State
jumped s rd v to = record { pc = to; regs = set_reg s.regs rd v; areas = s.areas }

-- a jump to a target, which must be a multiple of 4, with a register written
abbrev pub jump : ℕ → State → ℕ → ℕ → Act
jump to s rd v = cond (nat_eq (to % 4) 0) (Next (jumped s rd v to)) (Traps cause.Jump)

-- a branch: a jump by a 13-bit offset where the test holds
abbrev pub branch : Bool → State → ℕ → Act
branch test s imm = cond test (jump (word_add s.pc (extend_13 imm)) s 0 0) (Next (with_reg s 0 0))

-- the address of a load or store: a register and a 12-bit offset
abbrev pub address : State → ℕ → ℕ → ℕ
address s rs1 imm = word_add (reg s.regs rs1) (extend_12 imm)

-- what a load does with the number that it found, or with none
abbrev pub into_reg : Option ℕ → (ℕ → ℕ) → State → ℕ → Act
into_reg None extend s rd = Traps cause.Load
into_reg (Some v) extend s rd = Next (with_reg s rd (extend v))

-- a load of n bytes into a register, extended to a word
abbrev pub load : ℕ → (ℕ → ℕ) → State → ℕ → ℕ → Act
load n extend s rd a = cond (nat_eq (a % n) 0) (into_reg (number_at n 4 s.areas a) extend s rd) (Traps cause.Misaligned)

-- what a store does where its bytes are stored to, or not
abbrev pub into_memory : Option ℕ → ℕ → State → ℕ → ℕ → Act
into_memory None n s a v = Traps cause.Store
into_memory (Some old) n s a v = Next (with_number n s a v)

-- a store of the low n bytes of a word
abbrev pub store : ℕ → State → ℕ → ℕ → Act
store n s a v = cond (nat_eq (a % n) 0) (into_memory (number_at n 2 s.areas a) n s a v) (Traps cause.Misaligned)

-- an operation on two registers, into a register
abbrev pub operate : (ℕ → ℕ → ℕ) → State → ℕ → ℕ → ℕ → Act
operate f s rd rs1 rs2 = Next (with_reg s rd (f (reg s.regs rs1) (reg s.regs rs2)))

-- an operation on a register and a word, into a register
abbrev pub operate_with : (ℕ → ℕ → ℕ) → State → ℕ → ℕ → ℕ → Act
operate_with f s rd rs1 v = Next (with_reg s rd (f (reg s.regs rs1) v))

-- a number as it is
abbrev pub whole : ℕ → ℕ
whole v = v

-- 1 where a is less than b as signed numbers, else 0
abbrev pub less_word : ℕ → ℕ → ℕ
less_word a b = flag_word (signed_less a b)

-- 1 where a is less than b as unsigned numbers, else 0
abbrev pub less_word_unsigned : ℕ → ℕ → ℕ
less_word_unsigned a b = flag_word (nat_lt a b)

-- the other truth value
abbrev pub negated : Bool → Bool
negated true = false
negated false = true

-- an end by an exception where its name could be loaded, or not
abbrev pub raise_named : Option (List ℕ) → State → Act
raise_named None s = Traps cause.Ecall
raise_named (Some name) s = Halts (Raised (reg s.regs 10) (reg s.regs 11)) (with_reg s 0 0)

-- an end by an exception: a0 and a1 are place and length of its name, at most 129 bytes, all loadable
abbrev pub raise : State → Act
raise s = cond (nat_le (reg s.regs 11) 129) (raise_named (bytes_at (reg s.regs 11) s.areas (reg s.regs 10)) s) (Traps cause.Ecall)

-- the environment call: a7 is 1 to put the low byte of a0, 2 to get a byte into a0, 3 to end,
-- 4 to raise, 5 to stop for room
unfoldable pub environment_call : ℕ → State → Act
environment_call a7 s =
    cond (nat_eq a7 1) (Puts (reg s.regs 10 % 256) (with_reg s 0 0)) (
    cond (nat_eq a7 2) (Gets (with_reg s 0 0)) (
    cond (nat_eq a7 3) (Halts Ended (with_reg s 0 0)) (
    cond (nat_eq a7 4) (raise s) (
    cond (nat_eq a7 5) (Halts RoomUsed (with_reg s 0 0)) (Traps cause.Ecall)))))

-- what an instruction does
unfoldable pub execute : Instr → State → Act
execute (Lui rd imm) s = Next (with_reg s rd (imm * 4096))
execute (Auipc rd imm) s = Next (with_reg s rd (word_add s.pc (imm * 4096)))
execute (Jal rd imm) s = jump (word_add s.pc (extend_21 imm)) s rd (word_add s.pc 4)
execute (Jalr rd rs1 imm) s = jump (address s rs1 imm / 2 * 2) s rd (word_add s.pc 4)
execute (Beq rs1 rs2 imm) s = branch (nat_eq (reg s.regs rs1) (reg s.regs rs2)) s imm
execute (Bne rs1 rs2 imm) s = branch (negated (nat_eq (reg s.regs rs1) (reg s.regs rs2))) s imm
execute (Blt rs1 rs2 imm) s = branch (signed_less (reg s.regs rs1) (reg s.regs rs2)) s imm
execute (Bge rs1 rs2 imm) s = branch (negated (signed_less (reg s.regs rs1) (reg s.regs rs2))) s imm
execute (Bltu rs1 rs2 imm) s = branch (nat_lt (reg s.regs rs1) (reg s.regs rs2)) s imm
execute (Bgeu rs1 rs2 imm) s = branch (negated (nat_lt (reg s.regs rs1) (reg s.regs rs2))) s imm
execute (Lb rd rs1 imm) s = load 1 extend_8 s rd (address s rs1 imm)
execute (Lh rd rs1 imm) s = load 2 extend_16 s rd (address s rs1 imm)
execute (Lw rd rs1 imm) s = load 4 whole s rd (address s rs1 imm)
execute (Lbu rd rs1 imm) s = load 1 whole s rd (address s rs1 imm)
execute (Lhu rd rs1 imm) s = load 2 whole s rd (address s rs1 imm)
execute (Sb rs1 rs2 imm) s = store 1 s (address s rs1 imm) (reg s.regs rs2)
execute (Sh rs1 rs2 imm) s = store 2 s (address s rs1 imm) (reg s.regs rs2)
execute (Sw rs1 rs2 imm) s = store 4 s (address s rs1 imm) (reg s.regs rs2)
execute (Addi rd rs1 imm) s = operate_with word_add s rd rs1 (extend_12 imm)
execute (Slti rd rs1 imm) s = operate_with less_word s rd rs1 (extend_12 imm)
execute (Sltiu rd rs1 imm) s = operate_with less_word_unsigned s rd rs1 (extend_12 imm)
execute (Xori rd rs1 imm) s = operate_with bit_xor s rd rs1 (extend_12 imm)
execute (Ori rd rs1 imm) s = operate_with bit_or s rd rs1 (extend_12 imm)
execute (Andi rd rs1 imm) s = operate_with bit_and s rd rs1 (extend_12 imm)
execute (Slli rd rs1 amount) s = operate_with shift_left s rd rs1 amount
execute (Srli rd rs1 amount) s = operate_with shift_right s rd rs1 amount
execute (Srai rd rs1 amount) s = operate_with shift_right_signed s rd rs1 amount
execute (Add rd rs1 rs2) s = operate word_add s rd rs1 rs2
execute (Sub rd rs1 rs2) s = operate word_sub s rd rs1 rs2
execute (Sll rd rs1 rs2) s = operate shift_left s rd rs1 rs2
execute (Slt rd rs1 rs2) s = operate less_word s rd rs1 rs2
execute (Sltu rd rs1 rs2) s = operate less_word_unsigned s rd rs1 rs2
execute (Xor rd rs1 rs2) s = operate bit_xor s rd rs1 rs2
execute (Srl rd rs1 rs2) s = operate shift_right s rd rs1 rs2
execute (Sra rd rs1 rs2) s = operate shift_right_signed s rd rs1 rs2
execute (Or rd rs1 rs2) s = operate bit_or s rd rs1 rs2
execute (And rd rs1 rs2) s = operate bit_and s rd rs1 rs2
execute (Mul rd rs1 rs2) s = operate multiply s rd rs1 rs2
execute (Mulh rd rs1 rs2) s = operate multiply_high s rd rs1 rs2
execute (Mulhsu rd rs1 rs2) s = operate multiply_high_mixed s rd rs1 rs2
execute (Mulhu rd rs1 rs2) s = operate multiply_high_unsigned s rd rs1 rs2
execute (Div rd rs1 rs2) s = operate divide s rd rs1 rs2
execute (Divu rd rs1 rs2) s = operate divide_unsigned s rd rs1 rs2
execute (Rem rd rs1 rs2) s = operate remainder s rd rs1 rs2
execute (Remu rd rs1 rs2) s = operate remainder_unsigned s rd rs1 rs2
execute (Fence rd rs1 bits) s = Next (with_reg s 0 0)
execute Ecall s = environment_call (reg s.regs 17) s
execute Ebreak s = Traps cause.Ebreak

-- what the instruction does that a word spells, if any
abbrev pub execute_found : Option Instr → State → Act
execute_found None s = Traps cause.Illegal
execute_found (Some instr) s = execute instr s

-- what the word does that was fetched, if any
abbrev pub execute_word : Option ℕ → State → Act
execute_word None s = Traps cause.Fetch
execute_word (Some word) s = execute_found (decode word) s

-- what the instruction at the program counter does; it is fetched from a multiple of 4
unfoldable pub step : State → Act
step s = cond (nat_eq (s.pc % 4) 0) (execute_word (number_at 4 1 s.areas s.pc) s) (Traps cause.Fetch)
