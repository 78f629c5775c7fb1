-- An instruction that a word was decoded to is valid, and its word is that word.
use Rattle.std.proofs.Common.{◌≡◌, ◌≢◌, ℕ, ◌<◌, Option, Some, None, Bool, true, false, nat_eq, cond, IfSome, IfNone, refl, sym, ap, ◌∙◌, subst, arith}
use Rattle.std.proofs.lemmas.Bool.{eqb-true}
use Rattle.th_rv.specs.declared.instr.Instr.{Instr}
use Rattle.th_rv.specs.declared.instr.Instr.TheVariants.{Lui, Auipc, Jal, Jalr, Beq, Bne, Blt, Bge, Bltu, Bgeu, Lb, Lh, Lw, Lbu, Lhu, Sb, Sh, Sw, Addi, Slti, Sltiu, Xori, Ori, Andi, Slli, Srli, Srai, Add, Sub, Sll, Slt, Sltu, Xor, Srl, Sra, Or, And, Mul, Mulh, Mulhsu, Mulhu, Div, Divu, Rem, Remu, Fence, Ecall, Ebreak}
use Rattle.th_rv.specs.Table.{Valid, IsBranchOffset, IsJumpOffset, pack, r_word, i_word, s_word, b_word, u_word, i_imm, s_imm, b_imm, u_imm, j_imm, encode, decode, of_fields, branch_of, load_of, store_of, immediate_of, shift_of, register_of, base_of, other_of, product_of, system_of, opcode_of, rd_of, funct3_of, rs1_of, rs2_of, funct7_of}
use Rattle.th_rv.proofs.Fields.{repack, i_spelled, s_spelled, b_spelled, u_spelled, j_spelled}
use Rattle.th_rv.proofs.EncodeLemmas.{decode_encode}

-- a valid instruction of this word
pub record Spells (word : ℕ) (instr : Instr) : Type 0 where
  pub valid : Valid instr
  pub spelled : encode instr ≡ word

no_instr : (P : Type 0) (i : Instr) → None ≡ Some i → P
no_instr P i e = absurd (let h : ⊥ = cc in h)

same : (word : ℕ) (j i : Instr) → Some j ≡ Some i → Valid j → encode j ≡ word → Spells word i
same word j i e v h = let r : j ≡ i = cc in subst (Spells word) r (record { valid = v; spelled = h })

-- the line of a table that gave the answer
line : (P : Type 0) (n k : ℕ) (a b : Option Instr) (i : Instr) → cond (nat_eq n k) a b ≡ Some i → (n ≡ k → a ≡ Some i → P) → (b ≡ Some i → P) → P
line P n k a b i e hit miss = by_test (nat_eq n k) (λ t. eqb-true n k t) e
  where
    by_test : (t : Bool) → (t ≡ true → n ≡ k) → cond t a b ≡ Some i → P
    by_test true q e2 = hit (q refl) e2
    by_test false q e2 = miss e2

branch_spells : (funct3 rs1 rs2 imm : ℕ) (i : Instr) → rs1 < 32 → rs2 < 32 → IsBranchOffset imm → branch_of funct3 rs1 rs2 imm ≡ Some i → Spells (b_word funct3 rs1 rs2 imm) i
unfolding branch_of
branch_spells funct3 rs1 rs2 imm i a b c e =
    line _ funct3 0 _ _ i e (λ k q. same _ (Beq rs1 rs2 imm) i q (a, b, c) (ap (λ f. b_word f rs1 rs2 imm) (sym k))) (λ e.
    line _ funct3 1 _ _ i e (λ k q. same _ (Bne rs1 rs2 imm) i q (a, b, c) (ap (λ f. b_word f rs1 rs2 imm) (sym k))) (λ e.
    line _ funct3 4 _ _ i e (λ k q. same _ (Blt rs1 rs2 imm) i q (a, b, c) (ap (λ f. b_word f rs1 rs2 imm) (sym k))) (λ e.
    line _ funct3 5 _ _ i e (λ k q. same _ (Bge rs1 rs2 imm) i q (a, b, c) (ap (λ f. b_word f rs1 rs2 imm) (sym k))) (λ e.
    line _ funct3 6 _ _ i e (λ k q. same _ (Bltu rs1 rs2 imm) i q (a, b, c) (ap (λ f. b_word f rs1 rs2 imm) (sym k))) (λ e.
    line _ funct3 7 _ _ i e (λ k q. same _ (Bgeu rs1 rs2 imm) i q (a, b, c) (ap (λ f. b_word f rs1 rs2 imm) (sym k))) (λ e.
    no_instr _ i e))))))

load_spells : (funct3 rd rs1 imm : ℕ) (i : Instr) → rd < 32 → rs1 < 32 → imm < 4096 → load_of funct3 rd rs1 imm ≡ Some i → Spells (i_word 0x03 funct3 rd rs1 imm) i
unfolding load_of
load_spells funct3 rd rs1 imm i a b c e =
    line _ funct3 0 _ _ i e (λ k q. same _ (Lb rd rs1 imm) i q (a, b, c) (ap (λ f. i_word 0x03 f rd rs1 imm) (sym k))) (λ e.
    line _ funct3 1 _ _ i e (λ k q. same _ (Lh rd rs1 imm) i q (a, b, c) (ap (λ f. i_word 0x03 f rd rs1 imm) (sym k))) (λ e.
    line _ funct3 2 _ _ i e (λ k q. same _ (Lw rd rs1 imm) i q (a, b, c) (ap (λ f. i_word 0x03 f rd rs1 imm) (sym k))) (λ e.
    line _ funct3 4 _ _ i e (λ k q. same _ (Lbu rd rs1 imm) i q (a, b, c) (ap (λ f. i_word 0x03 f rd rs1 imm) (sym k))) (λ e.
    line _ funct3 5 _ _ i e (λ k q. same _ (Lhu rd rs1 imm) i q (a, b, c) (ap (λ f. i_word 0x03 f rd rs1 imm) (sym k))) (λ e.
    no_instr _ i e)))))

store_spells : (funct3 rs1 rs2 imm : ℕ) (i : Instr) → rs1 < 32 → rs2 < 32 → imm < 4096 → store_of funct3 rs1 rs2 imm ≡ Some i → Spells (s_word funct3 rs1 rs2 imm) i
unfolding store_of
store_spells funct3 rs1 rs2 imm i a b c e =
    line _ funct3 0 _ _ i e (λ k q. same _ (Sb rs1 rs2 imm) i q (a, b, c) (ap (λ f. s_word f rs1 rs2 imm) (sym k))) (λ e.
    line _ funct3 1 _ _ i e (λ k q. same _ (Sh rs1 rs2 imm) i q (a, b, c) (ap (λ f. s_word f rs1 rs2 imm) (sym k))) (λ e.
    line _ funct3 2 _ _ i e (λ k q. same _ (Sw rs1 rs2 imm) i q (a, b, c) (ap (λ f. s_word f rs1 rs2 imm) (sym k))) (λ e.
    no_instr _ i e)))

base_spells : (funct3 rd rs1 rs2 : ℕ) (i : Instr) → rd < 32 → rs1 < 32 → rs2 < 32 → base_of funct3 rd rs1 rs2 ≡ Some i → Spells (r_word funct3 0 rd rs1 rs2) i
unfolding base_of
base_spells funct3 rd rs1 rs2 i a b c e =
    line _ funct3 0 _ _ i e (λ k q. same _ (Add rd rs1 rs2) i q (a, b, c) (ap (λ f. r_word f 0 rd rs1 rs2) (sym k))) (λ e.
    line _ funct3 1 _ _ i e (λ k q. same _ (Sll rd rs1 rs2) i q (a, b, c) (ap (λ f. r_word f 0 rd rs1 rs2) (sym k))) (λ e.
    line _ funct3 2 _ _ i e (λ k q. same _ (Slt rd rs1 rs2) i q (a, b, c) (ap (λ f. r_word f 0 rd rs1 rs2) (sym k))) (λ e.
    line _ funct3 3 _ _ i e (λ k q. same _ (Sltu rd rs1 rs2) i q (a, b, c) (ap (λ f. r_word f 0 rd rs1 rs2) (sym k))) (λ e.
    line _ funct3 4 _ _ i e (λ k q. same _ (Xor rd rs1 rs2) i q (a, b, c) (ap (λ f. r_word f 0 rd rs1 rs2) (sym k))) (λ e.
    line _ funct3 5 _ _ i e (λ k q. same _ (Srl rd rs1 rs2) i q (a, b, c) (ap (λ f. r_word f 0 rd rs1 rs2) (sym k))) (λ e.
    line _ funct3 6 _ _ i e (λ k q. same _ (Or rd rs1 rs2) i q (a, b, c) (ap (λ f. r_word f 0 rd rs1 rs2) (sym k))) (λ e.
    line _ funct3 7 _ _ i e (λ k q. same _ (And rd rs1 rs2) i q (a, b, c) (ap (λ f. r_word f 0 rd rs1 rs2) (sym k))) (λ e.
    no_instr _ i e))))))))

other_spells : (funct3 rd rs1 rs2 : ℕ) (i : Instr) → rd < 32 → rs1 < 32 → rs2 < 32 → other_of funct3 rd rs1 rs2 ≡ Some i → Spells (r_word funct3 0x20 rd rs1 rs2) i
unfolding other_of
other_spells funct3 rd rs1 rs2 i a b c e =
    line _ funct3 0 _ _ i e (λ k q. same _ (Sub rd rs1 rs2) i q (a, b, c) (ap (λ f. r_word f 0x20 rd rs1 rs2) (sym k))) (λ e.
    line _ funct3 5 _ _ i e (λ k q. same _ (Sra rd rs1 rs2) i q (a, b, c) (ap (λ f. r_word f 0x20 rd rs1 rs2) (sym k))) (λ e.
    no_instr _ i e))

product_spells : (funct3 rd rs1 rs2 : ℕ) (i : Instr) → rd < 32 → rs1 < 32 → rs2 < 32 → product_of funct3 rd rs1 rs2 ≡ Some i → Spells (r_word funct3 1 rd rs1 rs2) i
unfolding product_of
product_spells funct3 rd rs1 rs2 i a b c e =
    line _ funct3 0 _ _ i e (λ k q. same _ (Mul rd rs1 rs2) i q (a, b, c) (ap (λ f. r_word f 1 rd rs1 rs2) (sym k))) (λ e.
    line _ funct3 1 _ _ i e (λ k q. same _ (Mulh rd rs1 rs2) i q (a, b, c) (ap (λ f. r_word f 1 rd rs1 rs2) (sym k))) (λ e.
    line _ funct3 2 _ _ i e (λ k q. same _ (Mulhsu rd rs1 rs2) i q (a, b, c) (ap (λ f. r_word f 1 rd rs1 rs2) (sym k))) (λ e.
    line _ funct3 3 _ _ i e (λ k q. same _ (Mulhu rd rs1 rs2) i q (a, b, c) (ap (λ f. r_word f 1 rd rs1 rs2) (sym k))) (λ e.
    line _ funct3 4 _ _ i e (λ k q. same _ (Div rd rs1 rs2) i q (a, b, c) (ap (λ f. r_word f 1 rd rs1 rs2) (sym k))) (λ e.
    line _ funct3 5 _ _ i e (λ k q. same _ (Divu rd rs1 rs2) i q (a, b, c) (ap (λ f. r_word f 1 rd rs1 rs2) (sym k))) (λ e.
    line _ funct3 6 _ _ i e (λ k q. same _ (Rem rd rs1 rs2) i q (a, b, c) (ap (λ f. r_word f 1 rd rs1 rs2) (sym k))) (λ e.
    line _ funct3 7 _ _ i e (λ k q. same _ (Remu rd rs1 rs2) i q (a, b, c) (ap (λ f. r_word f 1 rd rs1 rs2) (sym k))) (λ e.
    no_instr _ i e))))))))

register_spells : (funct3 funct7 rd rs1 rs2 : ℕ) (i : Instr) → rd < 32 → rs1 < 32 → rs2 < 32 → register_of funct3 funct7 rd rs1 rs2 ≡ Some i → Spells (r_word funct3 funct7 rd rs1 rs2) i
unfolding register_of
register_spells funct3 funct7 rd rs1 rs2 i a b c e =
    line _ funct7 0 _ _ i e (λ k q. subst (λ g. Spells (r_word funct3 g rd rs1 rs2) i) (sym k) (base_spells funct3 rd rs1 rs2 i a b c q)) (λ e.
    line _ funct7 0x20 _ _ i e (λ k q. subst (λ g. Spells (r_word funct3 g rd rs1 rs2) i) (sym k) (other_spells funct3 rd rs1 rs2 i a b c q)) (λ e.
    line _ funct7 1 _ _ i e (λ k q. subst (λ g. Spells (r_word funct3 g rd rs1 rs2) i) (sym k) (product_spells funct3 rd rs1 rs2 i a b c q)) (λ e.
    no_instr _ i e)))

shift_spells : (funct3 funct7 rd rs1 amount : ℕ) (i : Instr) → rd < 32 → rs1 < 32 → amount < 32 → shift_of funct3 funct7 rd rs1 amount ≡ Some i → Spells (pack 0x13 rd funct3 rs1 amount funct7) i
unfolding shift_of
shift_spells funct3 funct7 rd rs1 amount i a b c e =
    line _ funct7 0 _ _ i e (λ g e.
    line _ funct3 1 _ _ i e (λ k q. same _ (Slli rd rs1 amount) i q (a, b, c) (cc (g, k))) (λ e.
    line _ funct3 5 _ _ i e (λ k q. same _ (Srli rd rs1 amount) i q (a, b, c) (cc (g, k))) (λ e.
    no_instr _ i e))) (λ e.
    line _ funct7 0x20 _ _ i e (λ g e.
    line _ funct3 5 _ _ i e (λ k q. same _ (Srai rd rs1 amount) i q (a, b, c) (cc (g, k))) (λ e. no_instr _ i e)) (λ e.
    no_instr _ i e))

immediate_spells : (funct3 rd rs1 rs2 funct7 : ℕ) (i : Instr) → rd < 32 → rs1 < 32 → rs2 < 32 → funct7 < 128 → immediate_of funct3 rd rs1 rs2 funct7 ≡ Some i → Spells (pack 0x13 rd funct3 rs1 rs2 funct7) i
unfolding immediate_of
immediate_spells funct3 rd rs1 rs2 funct7 i a b c d e =
    let m : i_imm rs2 funct7 < 4096 = omega arith in
    line _ funct3 0 _ _ i e (λ k q. same _ (Addi rd rs1 (i_imm rs2 funct7)) i q (a, b, m) (i_spelled 0x13 rd 0 rs1 rs2 funct7 c ∙ ap (λ f. pack 0x13 rd f rs1 rs2 funct7) (sym k))) (λ e.
    line _ funct3 2 _ _ i e (λ k q. same _ (Slti rd rs1 (i_imm rs2 funct7)) i q (a, b, m) (i_spelled 0x13 rd 2 rs1 rs2 funct7 c ∙ ap (λ f. pack 0x13 rd f rs1 rs2 funct7) (sym k))) (λ e.
    line _ funct3 3 _ _ i e (λ k q. same _ (Sltiu rd rs1 (i_imm rs2 funct7)) i q (a, b, m) (i_spelled 0x13 rd 3 rs1 rs2 funct7 c ∙ ap (λ f. pack 0x13 rd f rs1 rs2 funct7) (sym k))) (λ e.
    line _ funct3 4 _ _ i e (λ k q. same _ (Xori rd rs1 (i_imm rs2 funct7)) i q (a, b, m) (i_spelled 0x13 rd 4 rs1 rs2 funct7 c ∙ ap (λ f. pack 0x13 rd f rs1 rs2 funct7) (sym k))) (λ e.
    line _ funct3 6 _ _ i e (λ k q. same _ (Ori rd rs1 (i_imm rs2 funct7)) i q (a, b, m) (i_spelled 0x13 rd 6 rs1 rs2 funct7 c ∙ ap (λ f. pack 0x13 rd f rs1 rs2 funct7) (sym k))) (λ e.
    line _ funct3 7 _ _ i e (λ k q. same _ (Andi rd rs1 (i_imm rs2 funct7)) i q (a, b, m) (i_spelled 0x13 rd 7 rs1 rs2 funct7 c ∙ ap (λ f. pack 0x13 rd f rs1 rs2 funct7) (sym k))) (λ e.
    shift_spells funct3 funct7 rd rs1 rs2 i a b c e))))))

b_range : (rd funct7 : ℕ) → rd < 32 → funct7 < 128 → IsBranchOffset (b_imm rd funct7)
b_range rd funct7 a b = (omega arith, omega arith)

s_range : (rd funct7 : ℕ) → rd < 32 → funct7 < 128 → s_imm rd funct7 < 4096
s_range rd funct7 a b = omega arith

j_range : (field : ℕ) → field < 1048576 → IsJumpOffset (j_imm field)
j_range field h = (omega arith, omega arith)

system_spells : (word : ℕ) (i : Instr) → system_of word ≡ Some i → Spells word i
unfolding system_of
system_spells word i e =
    line _ word 0x00000073 _ _ i e (λ k q. same _ Ecall i q tt (sym k)) (λ e.
    line _ word 0x00100073 _ _ i e (λ k q. same _ Ebreak i q tt (sym k)) (λ e.
    no_instr _ i e))

fields_spell : (opcode rd funct3 rs1 rs2 funct7 : ℕ) (i : Instr) → rd < 32 → funct3 < 8 → rs1 < 32 → rs2 < 32 → funct7 < 128 → of_fields opcode rd funct3 rs1 rs2 funct7 ≡ Some i → Spells (pack opcode rd funct3 rs1 rs2 funct7) i
unfolding of_fields
fields_spell opcode rd funct3 rs1 rs2 funct7 i a b c d g e =
    let m : i_imm rs2 funct7 < 4096 = omega arith in
    let u : u_imm funct3 rs1 rs2 funct7 < 1048576 = omega arith in
    line _ opcode 0x37 _ _ i e (λ o q. at 0x37 o (same _ (Lui rd (u_imm funct3 rs1 rs2 funct7)) i q (a, u) (u_spelled 0x37 rd funct3 rs1 rs2 funct7 b c d))) (λ e.
    line _ opcode 0x17 _ _ i e (λ o q. at 0x17 o (same _ (Auipc rd (u_imm funct3 rs1 rs2 funct7)) i q (a, u) (u_spelled 0x17 rd funct3 rs1 rs2 funct7 b c d))) (λ e.
    line _ opcode 0x6f _ _ i e (λ o q. at 0x6f o (same _ (Jal rd (j_imm (u_imm funct3 rs1 rs2 funct7))) i q (a, j_range _ u) (ap (u_word 0x6f rd) (j_spelled (u_imm funct3 rs1 rs2 funct7) u) ∙ u_spelled 0x6f rd funct3 rs1 rs2 funct7 b c d))) (λ e.
    line _ opcode 0x67 _ _ i e (λ o e. line _ funct3 0 _ _ i e (λ k q. at 0x67 o (same _ (Jalr rd rs1 (i_imm rs2 funct7)) i q (a, c, m) (i_spelled 0x67 rd 0 rs1 rs2 funct7 d ∙ ap (λ f. pack 0x67 rd f rs1 rs2 funct7) (sym k)))) (λ e. no_instr _ i e)) (λ e.
    line _ opcode 0x63 _ _ i e (λ o q. at 0x63 o (subst (λ w. Spells w i) (b_spelled rd funct3 rs1 rs2 funct7 a g) (branch_spells funct3 rs1 rs2 (b_imm rd funct7) i c d (b_range rd funct7 a g) q))) (λ e.
    line _ opcode 0x03 _ _ i e (λ o q. at 0x03 o (subst (λ w. Spells w i) (i_spelled 0x03 rd funct3 rs1 rs2 funct7 d) (load_spells funct3 rd rs1 (i_imm rs2 funct7) i a c m q))) (λ e.
    line _ opcode 0x23 _ _ i e (λ o q. at 0x23 o (subst (λ w. Spells w i) (s_spelled 0x23 rd funct3 rs1 rs2 funct7 a) (store_spells funct3 rs1 rs2 (s_imm rd funct7) i c d (s_range rd funct7 a g) q))) (λ e.
    line _ opcode 0x13 _ _ i e (λ o q. at 0x13 o (immediate_spells funct3 rd rs1 rs2 funct7 i a c d g q)) (λ e.
    line _ opcode 0x33 _ _ i e (λ o q. at 0x33 o (register_spells funct3 funct7 rd rs1 rs2 i a c d q)) (λ e.
    line _ opcode 0x0f _ _ i e (λ o e. line _ funct3 0 _ _ i e (λ k q. at 0x0f o (same _ (Fence rd rs1 (i_imm rs2 funct7)) i q (a, c, m) (i_spelled 0x0f rd 0 rs1 rs2 funct7 d ∙ ap (λ f. pack 0x0f rd f rs1 rs2 funct7) (sym k)))) (λ e. no_instr _ i e)) (λ e.
    line _ opcode 0x73 _ _ i e (λ o q. system_spells (pack opcode rd funct3 rs1 rs2 funct7) i q) (λ e.
    no_instr _ i e)))))))))))
  where
    at : (k : ℕ) → opcode ≡ k → Spells (pack k rd funct3 rs1 rs2 funct7) i → Spells (pack opcode rd funct3 rs1 rs2 funct7) i
    at k o s = subst (λ x. Spells (pack x rd funct3 rs1 rs2 funct7) i) (sym o) s

-- what was decoded
pub decode_spells : (word : ℕ) (instr : Instr) → word < 4294967296 → decode word ≡ Some instr → Spells word instr
decode_spells word instr h e = subst (λ w. Spells w instr) (repack word) (fields_spell (opcode_of word) (rd_of word) (funct3_of word) (rs1_of word) (rs2_of word) (funct7_of word) instr (omega arith) (omega arith) (omega arith) (omega arith) (omega arith) e)

-- the same of a table's answer
pub decode_valid : (word : ℕ) (found : Option Instr) → word < 4294967296 → found ≡ decode word → IfSome found (λ instr. Valid instr)
decode_valid word None h e = tt
decode_valid word (Some instr) h e = (decode_spells word instr h (sym e)).valid

pub decode_spelled : (word : ℕ) (found : Option Instr) → word < 4294967296 → found ≡ decode word → IfSome found (λ instr. encode instr ≡ word)
decode_spelled word None h e = tt
decode_spelled word (Some instr) h e = (decode_spells word instr h (sym e)).spelled

-- where the table has no instruction, no valid instruction has this word
pub decode_none : (word : ℕ) (found : Option Instr) → found ≡ decode word → IfNone found ((instr : Instr) → Valid instr → encode instr ≢ word)
decode_none word (Some instr) e = tt
decode_none word None e = λ instr v q. let read : decode word ≡ Some instr = subst (λ w. decode w ≡ Some instr) q (decode_encode instr v) in let h : ⊥ = cc in h
