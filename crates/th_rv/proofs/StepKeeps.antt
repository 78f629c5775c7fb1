-- A step keeps words and bytes: registers and program counter stay below 2 ^ 32, memory's bytes below 256.
use Rattle.std.proofs.Common.{◌≡◌, ℕ, zero, suc, ◌+◌, ◌-◌, ◌*◌, ◌/◌, ◌%◌, ◌<◌, List, [], ◌∷◌, length, Option, Some, None, Bool, nat_eq, nat_le, nat_lt, IfSome, slice_index, bit_and, bit_or, bit_xor, refl, sym, ◌∙◌, arith}
use Rattle.std.specs.Prelude.{All, slice_get}
use Rattle.std.proofs.lemmas.Bool.{cond_both}
use Rattle.std.proofs.lemmas.List.Elements.{All-set, All-nil, All-cons, All-head, All-tail}
use Rattle.std.proofs.Math.ListN.{length-set}
use Rattle.th_word.specs.Word.{word_add, word_sub, signed_less, extend_8, extend_12, extend_13, extend_16, extend_21, shift_left, shift_right, shift_right_signed, multiply, multiply_high, multiply_high_mixed, multiply_high_unsigned, divide, divide_unsigned, remainder, remainder_unsigned}
use Rattle.th_word.proofs.Words.{word_add-word, word_sub-word, bit_and-word, bit_or-word, bit_xor-word, flag_word-word, extend_8-word, extend_12-word, extend_16-word, shift_left-word, shift_right-word, shift_right_signed-word, multiply-word, multiply_high-word, multiply_high_mixed-word, multiply_high_unsigned-word, divide-word, divide_unsigned-word, remainder-word, remainder_unsigned-word}
use Rattle.th_rv.specs.declared.instr.Instr.{Instr}
use Rattle.th_rv.specs.declared.instr.Instr.TheVariants.{Lui, Auipc, Jal, Jalr, Beq, Bne, Blt, Bge, Bltu, Bgeu, Lb, Lh, Lw, Lbu, Lhu, Sb, Sh, Sw, Addi, Slti, Sltiu, Xori, Ori, Andi, Slli, Srli, Srai, Add, Sub, Sll, Slt, Sltu, Xor, Srl, Sra, Or, And, Mul, Mulh, Mulhsu, Mulhu, Div, Divu, Rem, Remu, Fence, Ecall, Ebreak}
use Rattle.th_rv.specs.Memory.{Area, has, allows, byte_at, area_set, put_at, with_byte, number_at, put_number, bytes_at}
use Rattle.th_rv.specs.Table.{Valid, decode}
use Rattle.th_rv.specs.Step.{State, Act, Next, Puts, Gets, Halts, Traps, reg, set_reg, with_reg, with_number, jumped, jump, branch, address, into_reg, load, into_memory, store, operate, operate_with, whole, less_word, less_word_unsigned, raise_named, environment_call, execute, execute_found, execute_word, step}
use Rattle.th_rv.proofs.DecodeLemmas.{decode_spells}

-- a word, a byte, an area of bytes
abbrev pub IsWord : ℕ → Type 0
IsWord v = v < 4294967296

abbrev pub IsByte : ℕ → Type 0
IsByte b = b < 256

abbrev pub HasBytes : Area → Type 0
HasBytes m = All IsByte m.bytes

-- a state of 32 registers, of words and of bytes
pub record InWords (s : State) : Type 0 where
  pub pc_word : IsWord s.pc
  pub reg_count : length s.regs ≡ 32
  pub reg_words : All IsWord s.regs
  pub area_bytes : All HasBytes s.areas

-- the state that an act goes on with is one of words and bytes, and a byte that it puts is a byte
abbrev pub ActInWords : Act → Type 0
ActInWords (Next s) = InWords s
ActInWords (Puts b s) = IsByte b × InWords s
ActInWords (Gets s) = InWords s
ActInWords (Halts h s) = InWords s
ActInWords (Traps c) = Unit {0}

-- registers

index_word : (l : List ℕ) (i : ℕ) → All IsWord l → slice_index l i < 4294967296
index_word [] i h = omega arith
index_word (x ∷ l) zero h = All-head IsWord x l h
index_word (x ∷ l) (suc i) h = index_word l i (All-tail IsWord x l h)

pub reg_word : (l : List ℕ) (r : ℕ) → All IsWord l → IsWord (reg l r)
reg_word l zero h = omega arith
reg_word l (suc r) h = index_word l (suc r) h

pub set_reg_words : (l : List ℕ) (r v : ℕ) → All IsWord l → IsWord v → All IsWord (set_reg l r v)
set_reg_words l zero v h k = h
set_reg_words l (suc r) v h k = All-set IsWord l (suc r) v k h

pub length-set_reg : (l : List ℕ) (r v : ℕ) → length (set_reg l r v) ≡ length l
length-set_reg l zero v = refl
length-set_reg l (suc r) v = length-set l (suc r) v

pub with_reg_words : (s : State) (rd v : ℕ) → InWords s → IsWord v → InWords (with_reg s rd v)
unfolding with_reg
with_reg_words s rd v h k = record {
  pc_word = word_add-word s.pc 4;
  reg_count = length-set_reg s.regs rd v ∙ h.reg_count;
  reg_words = set_reg_words s.regs rd v h.reg_words k;
  area_bytes = h.area_bytes;
}

jumped_words : (s : State) (rd v to : ℕ) → InWords s → IsWord v → IsWord to → InWords (jumped s rd v to)
unfolding jumped
jumped_words s rd v to h k t = record {
  pc_word = t;
  reg_count = length-set_reg s.regs rd v ∙ h.reg_count;
  reg_words = set_reg_words s.regs rd v h.reg_words k;
  area_bytes = h.area_bytes;
}

-- memory

area_set_bytes : (m : Area) (i v : ℕ) → HasBytes m → IsByte v → HasBytes (area_set m i v)
unfolding area_set
area_set_bytes m i v h k = All-set IsByte m.bytes i v k h

put_at_bytes : (ms : List Area) (a v : ℕ) → All HasBytes ms → IsByte v → All HasBytes (put_at ms a v)
put_at_bytes [] a v h k = All-nil HasBytes
put_at_bytes (m ∷ ms) a v h k =
    let first : HasBytes m = All-head HasBytes m ms h in
    let rest : All HasBytes ms = All-tail HasBytes m ms h in
    cond_both (has m a) _ _ (All HasBytes) (λ e. All-cons HasBytes _ ms (area_set_bytes m (a - m.at) v first k) rest) (λ e. All-cons HasBytes m _ first (put_at_bytes ms a v rest k))

pub put_number_bytes : (n : ℕ) (ms : List Area) (a v : ℕ) → All HasBytes ms → All HasBytes (put_number n ms a v)
put_number_bytes zero ms a v h = h
put_number_bytes (suc n) ms a v h = put_number_bytes n (put_at ms a (v % 256)) (a + 1) (v / 256) (put_at_bytes ms a (v % 256) h (omega arith))

with_number_words : (n : ℕ) (s : State) (a v : ℕ) → InWords s → InWords (with_number n s a v)
unfolding with_number
with_number_words n s a v h = record {
  pc_word = word_add-word s.pc 4;
  reg_count = h.reg_count;
  reg_words = h.reg_words;
  area_bytes = put_number_bytes n s.areas a v h.area_bytes;
}

get_byte : (bs : List ℕ) (i : ℕ) → All IsByte bs → IfSome (slice_get bs i) IsByte
get_byte [] i h = tt
get_byte (b ∷ bs) zero h = All-head IsByte b bs h
get_byte (b ∷ bs) (suc i) h = get_byte bs i (All-tail IsByte b bs h)

pub byte_at_byte : (flag : ℕ) (ms : List Area) (a : ℕ) → All HasBytes ms → IfSome (byte_at flag ms a) IsByte
byte_at_byte flag [] a h = tt
byte_at_byte flag (m ∷ ms) a h = cond_both (has m a) _ _ (λ o. IfSome o IsByte) (λ e. cond_both (allows flag m.flags) _ _ (λ o. IfSome o IsByte) (λ e. get_byte m.bytes (a - m.at) (All-head HasBytes m ms h)) (λ e. tt)) (λ e. byte_at_byte flag ms a (All-tail HasBytes m ms h))

-- 256 to a power: how many numbers n bytes spell
abbrev pub numbers_of : ℕ → ℕ
numbers_of zero = 1
numbers_of (suc n) = 256 * numbers_of n

with_byte_below : (b rest : Option ℕ) (m : ℕ) → IfSome b IsByte → IfSome rest (λ k. k < m) → IfSome (with_byte b rest) (λ v. v < 256 * m)
with_byte_below None rest m h k = tt
with_byte_below (Some b) None m h k = tt
with_byte_below (Some b) (Some r) m h k = omega arith

pub number_at_below : (n flag : ℕ) (ms : List Area) (a : ℕ) → All HasBytes ms → IfSome (number_at n flag ms a) (λ v. v < numbers_of n)
number_at_below zero flag ms a h = omega arith
number_at_below (suc n) flag ms a h = with_byte_below (byte_at flag ms a) (number_at n flag ms (a + 1)) (numbers_of n) (byte_at_byte flag ms a h) (number_at_below n flag ms (a + 1) h)

-- what instructions do

next_words : (s : State) → InWords s → InWords (with_reg s 0 0)
next_words s h = with_reg_words s 0 0 h (omega arith)

jump_words : (to : ℕ) (s : State) (rd v : ℕ) → InWords s → IsWord v → IsWord to → ActInWords (jump to s rd v)
jump_words to s rd v h k t = cond_both (nat_eq (to % 4) 0) _ _ ActInWords (λ e. jumped_words s rd v to h k t) (λ e. tt)

branch_words : (test : Bool) (s : State) (imm : ℕ) → InWords s → ActInWords (branch test s imm)
branch_words test s imm h = cond_both test _ _ ActInWords (λ e. jump_words (word_add s.pc (extend_13 imm)) s 0 0 h (omega arith) (word_add-word s.pc (extend_13 imm))) (λ e. next_words s h)

into_reg_words : (found : Option ℕ) (extend : ℕ → ℕ) (s : State) (rd m : ℕ) → InWords s → IfSome found (λ v. v < m) → ((v : ℕ) → v < m → IsWord (extend v)) → ActInWords (into_reg found extend s rd)
into_reg_words None extend s rd m h k f = tt
into_reg_words (Some v) extend s rd m h k f = with_reg_words s rd (extend v) h (f v k)

load_words : (n : ℕ) (extend : ℕ → ℕ) (s : State) (rd a : ℕ) → InWords s → ((v : ℕ) → v < numbers_of n → IsWord (extend v)) → ActInWords (load n extend s rd a)
load_words n extend s rd a h f = cond_both (nat_eq (a % n) 0) _ _ ActInWords (λ e. into_reg_words (number_at n 4 s.areas a) extend s rd (numbers_of n) h (number_at_below n 4 s.areas a h.area_bytes) f) (λ e. tt)

into_memory_words : (found : Option ℕ) (n : ℕ) (s : State) (a v : ℕ) → InWords s → ActInWords (into_memory found n s a v)
into_memory_words None n s a v h = tt
into_memory_words (Some old) n s a v h = with_number_words n s a v h

store_words : (n : ℕ) (s : State) (a v : ℕ) → InWords s → ActInWords (store n s a v)
store_words n s a v h = cond_both (nat_eq (a % n) 0) _ _ ActInWords (λ e. into_memory_words (number_at n 2 s.areas a) n s a v h) (λ e. tt)

operate_words : (f : ℕ → ℕ → ℕ) (s : State) (rd rs1 rs2 : ℕ) → InWords s → ((a b : ℕ) → IsWord a → IsWord b → IsWord (f a b)) → ActInWords (operate f s rd rs1 rs2)
operate_words f s rd rs1 rs2 h k = with_reg_words s rd (f (reg s.regs rs1) (reg s.regs rs2)) h (k (reg s.regs rs1) (reg s.regs rs2) (reg_word s.regs rs1 h.reg_words) (reg_word s.regs rs2 h.reg_words))

operate_with_words : (f : ℕ → ℕ → ℕ) (s : State) (rd rs1 v : ℕ) → InWords s → ((a : ℕ) → IsWord a → IsWord (f a v)) → ActInWords (operate_with f s rd rs1 v)
operate_with_words f s rd rs1 v h k = with_reg_words s rd (f (reg s.regs rs1) v) h (k (reg s.regs rs1) (reg_word s.regs rs1 h.reg_words))

raise_named_words : (name : Option (List ℕ)) (s : State) → InWords s → ActInWords (raise_named name s)
raise_named_words None s h = tt
raise_named_words (Some name) s h = next_words s h

environment_call_words : (a7 : ℕ) (s : State) → InWords s → ActInWords (environment_call a7 s)
unfolding environment_call
environment_call_words a7 s h =
    cond_both (nat_eq a7 1) _ _ ActInWords (λ e. (omega arith, next_words s h)) (λ e.
    cond_both (nat_eq a7 2) _ _ ActInWords (λ e. next_words s h) (λ e.
    cond_both (nat_eq a7 3) _ _ ActInWords (λ e. next_words s h) (λ e.
    cond_both (nat_eq a7 4) _ _ ActInWords (λ e. cond_both (nat_le (reg s.regs 11) 129) _ _ ActInWords (λ e. raise_named_words (bytes_at (reg s.regs 11) s.areas (reg s.regs 10)) s h) (λ e. tt)) (λ e.
    cond_both (nat_eq a7 5) _ _ ActInWords (λ e. next_words s h) (λ e. tt)))))

even_word : (n : ℕ) → IsWord n → IsWord (n / 2 * 2)
even_word n h = omega arith

upper_word : (imm : ℕ) → imm < 1048576 → IsWord (imm * 4096)
upper_word imm h = omega arith

pub execute_words : (instr : Instr) (s : State) → Valid instr → InWords s → ActInWords (execute instr s)
unfolding execute
execute_words (Lui rd imm) s v h = with_reg_words s rd (imm * 4096) h (upper_word imm v.1)
execute_words (Auipc rd imm) s v h = with_reg_words s rd (word_add s.pc (imm * 4096)) h (word_add-word s.pc (imm * 4096))
execute_words (Jal rd imm) s v h = jump_words (word_add s.pc (extend_21 imm)) s rd (word_add s.pc 4) h (word_add-word s.pc 4) (word_add-word s.pc (extend_21 imm))
execute_words (Jalr rd rs1 imm) s v h = jump_words (address s rs1 imm / 2 * 2) s rd (word_add s.pc 4) h (word_add-word s.pc 4) (even_word (address s rs1 imm) (word_add-word (reg s.regs rs1) (extend_12 imm)))
execute_words (Beq rs1 rs2 imm) s v h = branch_words _ s imm h
execute_words (Bne rs1 rs2 imm) s v h = branch_words _ s imm h
execute_words (Blt rs1 rs2 imm) s v h = branch_words _ s imm h
execute_words (Bge rs1 rs2 imm) s v h = branch_words _ s imm h
execute_words (Bltu rs1 rs2 imm) s v h = branch_words _ s imm h
execute_words (Bgeu rs1 rs2 imm) s v h = branch_words _ s imm h
execute_words (Lb rd rs1 imm) s v h = load_words 1 extend_8 s rd (address s rs1 imm) h (λ n k. extend_8-word n k)
execute_words (Lh rd rs1 imm) s v h = load_words 2 extend_16 s rd (address s rs1 imm) h (λ n k. extend_16-word n k)
execute_words (Lw rd rs1 imm) s v h = load_words 4 whole s rd (address s rs1 imm) h (λ n k. k)
execute_words (Lbu rd rs1 imm) s v h = load_words 1 whole s rd (address s rs1 imm) h (λ n k. omega arith)
execute_words (Lhu rd rs1 imm) s v h = load_words 2 whole s rd (address s rs1 imm) h (λ n k. omega arith)
execute_words (Sb rs1 rs2 imm) s v h = store_words 1 s (address s rs1 imm) (reg s.regs rs2) h
execute_words (Sh rs1 rs2 imm) s v h = store_words 2 s (address s rs1 imm) (reg s.regs rs2) h
execute_words (Sw rs1 rs2 imm) s v h = store_words 4 s (address s rs1 imm) (reg s.regs rs2) h
execute_words (Addi rd rs1 imm) s v h = operate_with_words word_add s rd rs1 (extend_12 imm) h (λ a k. word_add-word a (extend_12 imm))
execute_words (Slti rd rs1 imm) s v h = operate_with_words less_word s rd rs1 (extend_12 imm) h (λ a k. flag_word-word (signed_less a (extend_12 imm)))
execute_words (Sltiu rd rs1 imm) s v h = operate_with_words less_word_unsigned s rd rs1 (extend_12 imm) h (λ a k. flag_word-word (nat_lt a (extend_12 imm)))
execute_words (Xori rd rs1 imm) s v h = operate_with_words bit_xor s rd rs1 (extend_12 imm) h (λ a k. bit_xor-word a (extend_12 imm) k (extend_12-word imm v.2))
execute_words (Ori rd rs1 imm) s v h = operate_with_words bit_or s rd rs1 (extend_12 imm) h (λ a k. bit_or-word a (extend_12 imm) k (extend_12-word imm v.2))
execute_words (Andi rd rs1 imm) s v h = operate_with_words bit_and s rd rs1 (extend_12 imm) h (λ a k. bit_and-word a (extend_12 imm) k)
execute_words (Slli rd rs1 amount) s v h = operate_with_words shift_left s rd rs1 amount h (λ a k. shift_left-word a amount)
execute_words (Srli rd rs1 amount) s v h = operate_with_words shift_right s rd rs1 amount h (λ a k. shift_right-word a amount k)
execute_words (Srai rd rs1 amount) s v h = operate_with_words shift_right_signed s rd rs1 amount h (λ a k. shift_right_signed-word a amount)
execute_words (Add rd rs1 rs2) s v h = operate_words word_add s rd rs1 rs2 h (λ a b k l. word_add-word a b)
execute_words (Sub rd rs1 rs2) s v h = operate_words word_sub s rd rs1 rs2 h (λ a b k l. word_sub-word a b)
execute_words (Sll rd rs1 rs2) s v h = operate_words shift_left s rd rs1 rs2 h (λ a b k l. shift_left-word a b)
execute_words (Slt rd rs1 rs2) s v h = operate_words less_word s rd rs1 rs2 h (λ a b k l. flag_word-word (signed_less a b))
execute_words (Sltu rd rs1 rs2) s v h = operate_words less_word_unsigned s rd rs1 rs2 h (λ a b k l. flag_word-word (nat_lt a b))
execute_words (Xor rd rs1 rs2) s v h = operate_words bit_xor s rd rs1 rs2 h (λ a b k l. bit_xor-word a b k l)
execute_words (Srl rd rs1 rs2) s v h = operate_words shift_right s rd rs1 rs2 h (λ a b k l. shift_right-word a b k)
execute_words (Sra rd rs1 rs2) s v h = operate_words shift_right_signed s rd rs1 rs2 h (λ a b k l. shift_right_signed-word a b)
execute_words (Or rd rs1 rs2) s v h = operate_words bit_or s rd rs1 rs2 h (λ a b k l. bit_or-word a b k l)
execute_words (And rd rs1 rs2) s v h = operate_words bit_and s rd rs1 rs2 h (λ a b k l. bit_and-word a b k)
execute_words (Mul rd rs1 rs2) s v h = operate_words multiply s rd rs1 rs2 h (λ a b k l. multiply-word a b)
execute_words (Mulh rd rs1 rs2) s v h = operate_words multiply_high s rd rs1 rs2 h (λ a b k l. multiply_high-word a b)
execute_words (Mulhsu rd rs1 rs2) s v h = operate_words multiply_high_mixed s rd rs1 rs2 h (λ a b k l. multiply_high_mixed-word a b)
execute_words (Mulhu rd rs1 rs2) s v h = operate_words multiply_high_unsigned s rd rs1 rs2 h (λ a b k l. multiply_high_unsigned-word a b k l)
execute_words (Div rd rs1 rs2) s v h = operate_words divide s rd rs1 rs2 h (λ a b k l. divide-word a b k)
execute_words (Divu rd rs1 rs2) s v h = operate_words divide_unsigned s rd rs1 rs2 h (λ a b k l. divide_unsigned-word a b k)
execute_words (Rem rd rs1 rs2) s v h = operate_words remainder s rd rs1 rs2 h (λ a b k l. remainder-word a b k)
execute_words (Remu rd rs1 rs2) s v h = operate_words remainder_unsigned s rd rs1 rs2 h (λ a b k l. remainder_unsigned-word a b k)
execute_words (Fence rd rs1 bits) s v h = next_words s h
execute_words Ecall s v h = environment_call_words (reg s.regs 17) s h
execute_words Ebreak s v h = tt

execute_found_words : (word : ℕ) (found : Option Instr) (s : State) → IsWord word → found ≡ decode word → InWords s → ActInWords (execute_found found s)
execute_found_words word None s w e h = tt
execute_found_words word (Some instr) s w e h = execute_words instr s (decode_spells word instr w (sym e)).valid h

execute_word_words : (found : Option ℕ) (s : State) → IfSome found IsWord → InWords s → ActInWords (execute_word found s)
execute_word_words None s w h = tt
execute_word_words (Some word) s w h = execute_found_words word (decode word) s w refl h

-- a step of a state of words and bytes goes on with such a state
pub step_keeps : (s : State) → InWords s → ActInWords (step s)
unfolding step
step_keeps s h = cond_both (nat_eq (s.pc % 4) 0) _ _ ActInWords (λ e. execute_word_words (number_at 4 1 s.areas s.pc) s (number_at_below 4 1 s.areas s.pc h.area_bytes) h) (λ e. tt)
