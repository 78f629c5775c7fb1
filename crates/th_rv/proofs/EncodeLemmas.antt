-- Decoding the word of an instruction gives the instruction.
use Rattle.std.proofs.Common.{◌≡◌, ℕ, ◌+◌, ◌*◌, ◌/◌, ◌%◌, ◌<◌, Some, refl, ap, ◌∙◌, arith}
use Rattle.th_rv.specs.declared.instr.Instr.{Instr}
use Rattle.th_rv.specs.declared.instr.Instr.TheVariants.{Lui, Auipc, Jal, Jalr, Beq, Bne, Blt, Bge, Bltu, Bgeu, Lb, Lh, Lw, Lbu, Lhu, Sb, Sh, Sw, Addi, Slti, Sltiu, Xori, Ori, Andi, Slli, Srli, Srai, Add, Sub, Sll, Slt, Sltu, Xor, Srl, Sra, Or, And, Mul, Mulh, Mulhsu, Mulhu, Div, Divu, Rem, Remu, Fence, Ecall, Ebreak}
use Rattle.th_rv.specs.Table.{Valid, IsBranchOffset, pack, r_word, i_word, s_word, b_word, u_word, j_imm, j_field, encode, decode, of_fields, branch_of, load_of, store_of, immediate_of, shift_of, register_of, base_of, other_of, product_of, system_of}
use Rattle.th_rv.proofs.Fields.{decode_pack, i_read, u_read, b_read, j_read}

-- decoding what was encoded
pub decode_encode : (instr : Instr) → Valid instr → decode (encode instr) ≡ Some instr
unfolding of_fields branch_of load_of store_of immediate_of shift_of register_of base_of other_of product_of system_of
decode_encode (Lui rd imm) v = decode_pack 0x37 rd (imm % 8) (imm / 8 % 32) (imm / 256 % 32) (imm / 8192) (omega arith) v.0 (omega arith) (omega arith) (omega arith) ∙ ap (λ x. Some (Lui rd x)) (u_read imm)
decode_encode (Auipc rd imm) v = decode_pack 0x17 rd (imm % 8) (imm / 8 % 32) (imm / 256 % 32) (imm / 8192) (omega arith) v.0 (omega arith) (omega arith) (omega arith) ∙ ap (λ x. Some (Auipc rd x)) (u_read imm)
decode_encode (Jal rd imm) v = decode_pack 0x6f rd _ _ _ _ (omega arith) v.0 (omega arith) (omega arith) (omega arith) ∙ ap (λ x. Some (Jal rd (j_imm x))) (u_read (j_field imm)) ∙ ap (λ x. Some (Jal rd x)) (j_read imm v.1.0 v.1.1)
decode_encode (Jalr rd rs1 imm) v = decode_pack 0x67 rd 0 rs1 (imm % 32) (imm / 32) (omega arith) v.0 (omega arith) v.1 (omega arith) ∙ ap (λ x. Some (Jalr rd rs1 x)) (i_read imm)
decode_encode (Beq rs1 rs2 imm) v = decode_pack 0x63 (imm / 2 % 16 * 2 + imm / 2048 % 2) 0 rs1 rs2 (imm / 4096 * 64 + imm / 32 % 64) (omega arith) (omega arith) (omega arith) v.0 v.1 ∙ ap (λ x. Some (Beq rs1 rs2 x)) (b_read imm v.2.0 v.2.1)
decode_encode (Bne rs1 rs2 imm) v = decode_pack 0x63 (imm / 2 % 16 * 2 + imm / 2048 % 2) 1 rs1 rs2 (imm / 4096 * 64 + imm / 32 % 64) (omega arith) (omega arith) (omega arith) v.0 v.1 ∙ ap (λ x. Some (Bne rs1 rs2 x)) (b_read imm v.2.0 v.2.1)
decode_encode (Blt rs1 rs2 imm) v = decode_pack 0x63 (imm / 2 % 16 * 2 + imm / 2048 % 2) 4 rs1 rs2 (imm / 4096 * 64 + imm / 32 % 64) (omega arith) (omega arith) (omega arith) v.0 v.1 ∙ ap (λ x. Some (Blt rs1 rs2 x)) (b_read imm v.2.0 v.2.1)
decode_encode (Bge rs1 rs2 imm) v = decode_pack 0x63 (imm / 2 % 16 * 2 + imm / 2048 % 2) 5 rs1 rs2 (imm / 4096 * 64 + imm / 32 % 64) (omega arith) (omega arith) (omega arith) v.0 v.1 ∙ ap (λ x. Some (Bge rs1 rs2 x)) (b_read imm v.2.0 v.2.1)
decode_encode (Bltu rs1 rs2 imm) v = decode_pack 0x63 (imm / 2 % 16 * 2 + imm / 2048 % 2) 6 rs1 rs2 (imm / 4096 * 64 + imm / 32 % 64) (omega arith) (omega arith) (omega arith) v.0 v.1 ∙ ap (λ x. Some (Bltu rs1 rs2 x)) (b_read imm v.2.0 v.2.1)
decode_encode (Bgeu rs1 rs2 imm) v = decode_pack 0x63 (imm / 2 % 16 * 2 + imm / 2048 % 2) 7 rs1 rs2 (imm / 4096 * 64 + imm / 32 % 64) (omega arith) (omega arith) (omega arith) v.0 v.1 ∙ ap (λ x. Some (Bgeu rs1 rs2 x)) (b_read imm v.2.0 v.2.1)
decode_encode (Lb rd rs1 imm) v = decode_pack 0x03 rd 0 rs1 (imm % 32) (imm / 32) (omega arith) v.0 (omega arith) v.1 (omega arith) ∙ ap (λ x. Some (Lb rd rs1 x)) (i_read imm)
decode_encode (Lh rd rs1 imm) v = decode_pack 0x03 rd 1 rs1 (imm % 32) (imm / 32) (omega arith) v.0 (omega arith) v.1 (omega arith) ∙ ap (λ x. Some (Lh rd rs1 x)) (i_read imm)
decode_encode (Lw rd rs1 imm) v = decode_pack 0x03 rd 2 rs1 (imm % 32) (imm / 32) (omega arith) v.0 (omega arith) v.1 (omega arith) ∙ ap (λ x. Some (Lw rd rs1 x)) (i_read imm)
decode_encode (Lbu rd rs1 imm) v = decode_pack 0x03 rd 4 rs1 (imm % 32) (imm / 32) (omega arith) v.0 (omega arith) v.1 (omega arith) ∙ ap (λ x. Some (Lbu rd rs1 x)) (i_read imm)
decode_encode (Lhu rd rs1 imm) v = decode_pack 0x03 rd 5 rs1 (imm % 32) (imm / 32) (omega arith) v.0 (omega arith) v.1 (omega arith) ∙ ap (λ x. Some (Lhu rd rs1 x)) (i_read imm)
decode_encode (Sb rs1 rs2 imm) v = decode_pack 0x23 (imm % 32) 0 rs1 rs2 (imm / 32) (omega arith) (omega arith) (omega arith) v.0 v.1 ∙ ap (λ x. Some (Sb rs1 rs2 x)) (i_read imm)
decode_encode (Sh rs1 rs2 imm) v = decode_pack 0x23 (imm % 32) 1 rs1 rs2 (imm / 32) (omega arith) (omega arith) (omega arith) v.0 v.1 ∙ ap (λ x. Some (Sh rs1 rs2 x)) (i_read imm)
decode_encode (Sw rs1 rs2 imm) v = decode_pack 0x23 (imm % 32) 2 rs1 rs2 (imm / 32) (omega arith) (omega arith) (omega arith) v.0 v.1 ∙ ap (λ x. Some (Sw rs1 rs2 x)) (i_read imm)
decode_encode (Addi rd rs1 imm) v = decode_pack 0x13 rd 0 rs1 (imm % 32) (imm / 32) (omega arith) v.0 (omega arith) v.1 (omega arith) ∙ ap (λ x. Some (Addi rd rs1 x)) (i_read imm)
decode_encode (Slti rd rs1 imm) v = decode_pack 0x13 rd 2 rs1 (imm % 32) (imm / 32) (omega arith) v.0 (omega arith) v.1 (omega arith) ∙ ap (λ x. Some (Slti rd rs1 x)) (i_read imm)
decode_encode (Sltiu rd rs1 imm) v = decode_pack 0x13 rd 3 rs1 (imm % 32) (imm / 32) (omega arith) v.0 (omega arith) v.1 (omega arith) ∙ ap (λ x. Some (Sltiu rd rs1 x)) (i_read imm)
decode_encode (Xori rd rs1 imm) v = decode_pack 0x13 rd 4 rs1 (imm % 32) (imm / 32) (omega arith) v.0 (omega arith) v.1 (omega arith) ∙ ap (λ x. Some (Xori rd rs1 x)) (i_read imm)
decode_encode (Ori rd rs1 imm) v = decode_pack 0x13 rd 6 rs1 (imm % 32) (imm / 32) (omega arith) v.0 (omega arith) v.1 (omega arith) ∙ ap (λ x. Some (Ori rd rs1 x)) (i_read imm)
decode_encode (Andi rd rs1 imm) v = decode_pack 0x13 rd 7 rs1 (imm % 32) (imm / 32) (omega arith) v.0 (omega arith) v.1 (omega arith) ∙ ap (λ x. Some (Andi rd rs1 x)) (i_read imm)
decode_encode (Slli rd rs1 amount) v = decode_pack 0x13 rd 1 rs1 amount 0 (omega arith) v.0 (omega arith) v.1 v.2
decode_encode (Srli rd rs1 amount) v = decode_pack 0x13 rd 5 rs1 amount 0 (omega arith) v.0 (omega arith) v.1 v.2
decode_encode (Srai rd rs1 amount) v = decode_pack 0x13 rd 5 rs1 amount 0x20 (omega arith) v.0 (omega arith) v.1 v.2
decode_encode (Add rd rs1 rs2) v = decode_pack 0x33 rd 0 rs1 rs2 0 (omega arith) v.0 (omega arith) v.1 v.2
decode_encode (Sub rd rs1 rs2) v = decode_pack 0x33 rd 0 rs1 rs2 0x20 (omega arith) v.0 (omega arith) v.1 v.2
decode_encode (Sll rd rs1 rs2) v = decode_pack 0x33 rd 1 rs1 rs2 0 (omega arith) v.0 (omega arith) v.1 v.2
decode_encode (Slt rd rs1 rs2) v = decode_pack 0x33 rd 2 rs1 rs2 0 (omega arith) v.0 (omega arith) v.1 v.2
decode_encode (Sltu rd rs1 rs2) v = decode_pack 0x33 rd 3 rs1 rs2 0 (omega arith) v.0 (omega arith) v.1 v.2
decode_encode (Xor rd rs1 rs2) v = decode_pack 0x33 rd 4 rs1 rs2 0 (omega arith) v.0 (omega arith) v.1 v.2
decode_encode (Srl rd rs1 rs2) v = decode_pack 0x33 rd 5 rs1 rs2 0 (omega arith) v.0 (omega arith) v.1 v.2
decode_encode (Sra rd rs1 rs2) v = decode_pack 0x33 rd 5 rs1 rs2 0x20 (omega arith) v.0 (omega arith) v.1 v.2
decode_encode (Or rd rs1 rs2) v = decode_pack 0x33 rd 6 rs1 rs2 0 (omega arith) v.0 (omega arith) v.1 v.2
decode_encode (And rd rs1 rs2) v = decode_pack 0x33 rd 7 rs1 rs2 0 (omega arith) v.0 (omega arith) v.1 v.2
decode_encode (Mul rd rs1 rs2) v = decode_pack 0x33 rd 0 rs1 rs2 1 (omega arith) v.0 (omega arith) v.1 v.2
decode_encode (Mulh rd rs1 rs2) v = decode_pack 0x33 rd 1 rs1 rs2 1 (omega arith) v.0 (omega arith) v.1 v.2
decode_encode (Mulhsu rd rs1 rs2) v = decode_pack 0x33 rd 2 rs1 rs2 1 (omega arith) v.0 (omega arith) v.1 v.2
decode_encode (Mulhu rd rs1 rs2) v = decode_pack 0x33 rd 3 rs1 rs2 1 (omega arith) v.0 (omega arith) v.1 v.2
decode_encode (Div rd rs1 rs2) v = decode_pack 0x33 rd 4 rs1 rs2 1 (omega arith) v.0 (omega arith) v.1 v.2
decode_encode (Divu rd rs1 rs2) v = decode_pack 0x33 rd 5 rs1 rs2 1 (omega arith) v.0 (omega arith) v.1 v.2
decode_encode (Rem rd rs1 rs2) v = decode_pack 0x33 rd 6 rs1 rs2 1 (omega arith) v.0 (omega arith) v.1 v.2
decode_encode (Remu rd rs1 rs2) v = decode_pack 0x33 rd 7 rs1 rs2 1 (omega arith) v.0 (omega arith) v.1 v.2
decode_encode (Fence rd rs1 bits) v = decode_pack 0x0f rd 0 rs1 (bits % 32) (bits / 32) (omega arith) v.0 (omega arith) v.1 (omega arith) ∙ ap (λ x. Some (Fence rd rs1 x)) (i_read bits)
decode_encode Ecall v = refl
decode_encode Ebreak v = refl

-- the words of valid fields are below 2 ^ 32
pack_below : (opcode rd funct3 rs1 rs2 funct7 : ℕ) → opcode < 128 → rd < 32 → funct3 < 8 → rs1 < 32 → rs2 < 32 → funct7 < 128 → pack opcode rd funct3 rs1 rs2 funct7 < 4294967296
pack_below opcode rd funct3 rs1 rs2 funct7 a b c d e f = omega arith

r_below : (funct3 funct7 rd rs1 rs2 : ℕ) → funct3 < 8 → funct7 < 128 → (rd < 32) × (rs1 < 32) × (rs2 < 32) → r_word funct3 funct7 rd rs1 rs2 < 4294967296
r_below funct3 funct7 rd rs1 rs2 a b v = pack_below 0x33 rd funct3 rs1 rs2 funct7 (omega arith) v.0 a v.1 v.2 b

i_below : (opcode funct3 rd rs1 imm : ℕ) → opcode < 128 → funct3 < 8 → (rd < 32) × (rs1 < 32) × (imm < 4096) → i_word opcode funct3 rd rs1 imm < 4294967296
i_below opcode funct3 rd rs1 imm a b v = let h : imm < 4096 = v.2 in pack_below opcode rd funct3 rs1 (imm % 32) (imm / 32) a v.0 b v.1 (omega arith) (omega arith)

shift_below : (funct3 funct7 rd rs1 amount : ℕ) → funct3 < 8 → funct7 < 128 → (rd < 32) × (rs1 < 32) × (amount < 32) → pack 0x13 rd funct3 rs1 amount funct7 < 4294967296
shift_below funct3 funct7 rd rs1 amount a b v = pack_below 0x13 rd funct3 rs1 amount funct7 (omega arith) v.0 a v.1 v.2 b

s_below : (funct3 rs1 rs2 imm : ℕ) → funct3 < 8 → (rs1 < 32) × (rs2 < 32) × (imm < 4096) → s_word funct3 rs1 rs2 imm < 4294967296
s_below funct3 rs1 rs2 imm a v = let h : imm < 4096 = v.2 in pack_below 0x23 (imm % 32) funct3 rs1 rs2 (imm / 32) (omega arith) (omega arith) a v.0 v.1 (omega arith)

b_below : (funct3 rs1 rs2 imm : ℕ) → funct3 < 8 → (rs1 < 32) × (rs2 < 32) × IsBranchOffset imm → b_word funct3 rs1 rs2 imm < 4294967296
b_below funct3 rs1 rs2 imm a v = let h : imm < 8192 = v.2.0 in pack_below 0x63 (imm / 2 % 16 * 2 + imm / 2048 % 2) funct3 rs1 rs2 (imm / 4096 * 64 + imm / 32 % 64) (omega arith) (omega arith) a v.0 v.1 (omega arith)

u_below : (opcode rd imm : ℕ) → opcode < 128 → rd < 32 → imm < 1048576 → u_word opcode rd imm < 4294967296
u_below opcode rd imm a b c = pack_below opcode rd (imm % 8) (imm / 8 % 32) (imm / 256 % 32) (imm / 8192) a b (omega arith) (omega arith) (omega arith) (omega arith)

j_below : (imm : ℕ) → imm < 2097152 → j_field imm < 1048576
j_below imm h = omega arith

-- the word of a valid instruction is below 2 ^ 32
pub encode_below : (instr : Instr) → Valid instr → encode instr < 4294967296
encode_below (Lui rd imm) v = u_below 0x37 rd imm (omega arith) v.0 v.1
encode_below (Auipc rd imm) v = u_below 0x17 rd imm (omega arith) v.0 v.1
encode_below (Jal rd imm) v = u_below 0x6f rd (j_field imm) (omega arith) v.0 (j_below imm v.1.0)
encode_below (Jalr rd rs1 imm) v = i_below 0x67 0 rd rs1 imm (omega arith) (omega arith) v
encode_below (Beq rs1 rs2 imm) v = b_below 0 rs1 rs2 imm (omega arith) v
encode_below (Bne rs1 rs2 imm) v = b_below 1 rs1 rs2 imm (omega arith) v
encode_below (Blt rs1 rs2 imm) v = b_below 4 rs1 rs2 imm (omega arith) v
encode_below (Bge rs1 rs2 imm) v = b_below 5 rs1 rs2 imm (omega arith) v
encode_below (Bltu rs1 rs2 imm) v = b_below 6 rs1 rs2 imm (omega arith) v
encode_below (Bgeu rs1 rs2 imm) v = b_below 7 rs1 rs2 imm (omega arith) v
encode_below (Lb rd rs1 imm) v = i_below 0x03 0 rd rs1 imm (omega arith) (omega arith) v
encode_below (Lh rd rs1 imm) v = i_below 0x03 1 rd rs1 imm (omega arith) (omega arith) v
encode_below (Lw rd rs1 imm) v = i_below 0x03 2 rd rs1 imm (omega arith) (omega arith) v
encode_below (Lbu rd rs1 imm) v = i_below 0x03 4 rd rs1 imm (omega arith) (omega arith) v
encode_below (Lhu rd rs1 imm) v = i_below 0x03 5 rd rs1 imm (omega arith) (omega arith) v
encode_below (Sb rs1 rs2 imm) v = s_below 0 rs1 rs2 imm (omega arith) v
encode_below (Sh rs1 rs2 imm) v = s_below 1 rs1 rs2 imm (omega arith) v
encode_below (Sw rs1 rs2 imm) v = s_below 2 rs1 rs2 imm (omega arith) v
encode_below (Addi rd rs1 imm) v = i_below 0x13 0 rd rs1 imm (omega arith) (omega arith) v
encode_below (Slti rd rs1 imm) v = i_below 0x13 2 rd rs1 imm (omega arith) (omega arith) v
encode_below (Sltiu rd rs1 imm) v = i_below 0x13 3 rd rs1 imm (omega arith) (omega arith) v
encode_below (Xori rd rs1 imm) v = i_below 0x13 4 rd rs1 imm (omega arith) (omega arith) v
encode_below (Ori rd rs1 imm) v = i_below 0x13 6 rd rs1 imm (omega arith) (omega arith) v
encode_below (Andi rd rs1 imm) v = i_below 0x13 7 rd rs1 imm (omega arith) (omega arith) v
encode_below (Slli rd rs1 amount) v = shift_below 1 0 rd rs1 amount (omega arith) (omega arith) v
encode_below (Srli rd rs1 amount) v = shift_below 5 0 rd rs1 amount (omega arith) (omega arith) v
encode_below (Srai rd rs1 amount) v = shift_below 5 0x20 rd rs1 amount (omega arith) (omega arith) v
encode_below (Add rd rs1 rs2) v = r_below 0 0 rd rs1 rs2 (omega arith) (omega arith) v
encode_below (Sub rd rs1 rs2) v = r_below 0 0x20 rd rs1 rs2 (omega arith) (omega arith) v
encode_below (Sll rd rs1 rs2) v = r_below 1 0 rd rs1 rs2 (omega arith) (omega arith) v
encode_below (Slt rd rs1 rs2) v = r_below 2 0 rd rs1 rs2 (omega arith) (omega arith) v
encode_below (Sltu rd rs1 rs2) v = r_below 3 0 rd rs1 rs2 (omega arith) (omega arith) v
encode_below (Xor rd rs1 rs2) v = r_below 4 0 rd rs1 rs2 (omega arith) (omega arith) v
encode_below (Srl rd rs1 rs2) v = r_below 5 0 rd rs1 rs2 (omega arith) (omega arith) v
encode_below (Sra rd rs1 rs2) v = r_below 5 0x20 rd rs1 rs2 (omega arith) (omega arith) v
encode_below (Or rd rs1 rs2) v = r_below 6 0 rd rs1 rs2 (omega arith) (omega arith) v
encode_below (And rd rs1 rs2) v = r_below 7 0 rd rs1 rs2 (omega arith) (omega arith) v
encode_below (Mul rd rs1 rs2) v = r_below 0 1 rd rs1 rs2 (omega arith) (omega arith) v
encode_below (Mulh rd rs1 rs2) v = r_below 1 1 rd rs1 rs2 (omega arith) (omega arith) v
encode_below (Mulhsu rd rs1 rs2) v = r_below 2 1 rd rs1 rs2 (omega arith) (omega arith) v
encode_below (Mulhu rd rs1 rs2) v = r_below 3 1 rd rs1 rs2 (omega arith) (omega arith) v
encode_below (Div rd rs1 rs2) v = r_below 4 1 rd rs1 rs2 (omega arith) (omega arith) v
encode_below (Divu rd rs1 rs2) v = r_below 5 1 rd rs1 rs2 (omega arith) (omega arith) v
encode_below (Rem rd rs1 rs2) v = r_below 6 1 rd rs1 rs2 (omega arith) (omega arith) v
encode_below (Remu rd rs1 rs2) v = r_below 7 1 rd rs1 rs2 (omega arith) (omega arith) v
encode_below (Fence rd rs1 bits) v = i_below 0x0f 0 rd rs1 bits (omega arith) (omega arith) v
encode_below Ecall v = omega arith
encode_below Ebreak v = omega arith
