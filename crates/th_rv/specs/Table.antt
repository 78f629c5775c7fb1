-- The words that spell the instructions of RV32IM, by their fields.
use Rattle.std.specs.Prelude.{◌≡◌, ℕ, ◌+◌, ◌*◌, ◌/◌, ◌%◌, ◌<◌, Option, Some, None, nat_eq, cond}
use Rattle.th_rv.specs.declared.instr.Instr.{Instr}
use Rattle.th_rv.specs.declared.instr.Instr.TheVariants.{Lui, Auipc, Jal, Jalr, Beq, Bne, Blt, Bge, Bltu, Bgeu, Lb, Lh, Lw, Lbu, Lhu, Sb, Sh, Sw, Addi, Slti, Sltiu, Xori, Ori, Andi, Slli, Srli, Srai, Add, Sub, Sll, Slt, Sltu, Xor, Srl, Sra, Or, And, Mul, Mulh, Mulhsu, Mulhu, Div, Divu, Rem, Remu, Fence, Ecall, Ebreak}

-- the number of a register
abbrev pub IsRegister : ℕ → Type 0
IsRegister r = r < 32

-- the offset of a branch: 13 bits, a multiple of 2
abbrev pub IsBranchOffset : ℕ → Type 0
IsBranchOffset imm = (imm < 8192) × (imm % 2 ≡ 0)

-- the offset of a JAL: 21 bits, a multiple of 2
abbrev pub IsJumpOffset : ℕ → Type 0
IsJumpOffset imm = (imm < 2097152) × (imm % 2 ≡ 0)

-- whether the fields of an instruction are in the ranges of its format
abbrev pub Valid : Instr → Type 0
Valid (Lui rd imm) = IsRegister rd × (imm < 1048576)
Valid (Auipc rd imm) = IsRegister rd × (imm < 1048576)
Valid (Jal rd imm) = IsRegister rd × IsJumpOffset imm
Valid (Jalr rd rs1 imm) = IsRegister rd × IsRegister rs1 × (imm < 4096)
Valid (Beq rs1 rs2 imm) = IsRegister rs1 × IsRegister rs2 × IsBranchOffset imm
Valid (Bne rs1 rs2 imm) = IsRegister rs1 × IsRegister rs2 × IsBranchOffset imm
Valid (Blt rs1 rs2 imm) = IsRegister rs1 × IsRegister rs2 × IsBranchOffset imm
Valid (Bge rs1 rs2 imm) = IsRegister rs1 × IsRegister rs2 × IsBranchOffset imm
Valid (Bltu rs1 rs2 imm) = IsRegister rs1 × IsRegister rs2 × IsBranchOffset imm
Valid (Bgeu rs1 rs2 imm) = IsRegister rs1 × IsRegister rs2 × IsBranchOffset imm
Valid (Lb rd rs1 imm) = IsRegister rd × IsRegister rs1 × (imm < 4096)
Valid (Lh rd rs1 imm) = IsRegister rd × IsRegister rs1 × (imm < 4096)
Valid (Lw rd rs1 imm) = IsRegister rd × IsRegister rs1 × (imm < 4096)
Valid (Lbu rd rs1 imm) = IsRegister rd × IsRegister rs1 × (imm < 4096)
Valid (Lhu rd rs1 imm) = IsRegister rd × IsRegister rs1 × (imm < 4096)
Valid (Sb rs1 rs2 imm) = IsRegister rs1 × IsRegister rs2 × (imm < 4096)
Valid (Sh rs1 rs2 imm) = IsRegister rs1 × IsRegister rs2 × (imm < 4096)
Valid (Sw rs1 rs2 imm) = IsRegister rs1 × IsRegister rs2 × (imm < 4096)
Valid (Addi rd rs1 imm) = IsRegister rd × IsRegister rs1 × (imm < 4096)
Valid (Slti rd rs1 imm) = IsRegister rd × IsRegister rs1 × (imm < 4096)
Valid (Sltiu rd rs1 imm) = IsRegister rd × IsRegister rs1 × (imm < 4096)
Valid (Xori rd rs1 imm) = IsRegister rd × IsRegister rs1 × (imm < 4096)
Valid (Ori rd rs1 imm) = IsRegister rd × IsRegister rs1 × (imm < 4096)
Valid (Andi rd rs1 imm) = IsRegister rd × IsRegister rs1 × (imm < 4096)
Valid (Slli rd rs1 amount) = IsRegister rd × IsRegister rs1 × (amount < 32)
Valid (Srli rd rs1 amount) = IsRegister rd × IsRegister rs1 × (amount < 32)
Valid (Srai rd rs1 amount) = IsRegister rd × IsRegister rs1 × (amount < 32)
Valid (Add rd rs1 rs2) = IsRegister rd × IsRegister rs1 × IsRegister rs2
Valid (Sub rd rs1 rs2) = IsRegister rd × IsRegister rs1 × IsRegister rs2
Valid (Sll rd rs1 rs2) = IsRegister rd × IsRegister rs1 × IsRegister rs2
Valid (Slt rd rs1 rs2) = IsRegister rd × IsRegister rs1 × IsRegister rs2
Valid (Sltu rd rs1 rs2) = IsRegister rd × IsRegister rs1 × IsRegister rs2
Valid (Xor rd rs1 rs2) = IsRegister rd × IsRegister rs1 × IsRegister rs2
Valid (Srl rd rs1 rs2) = IsRegister rd × IsRegister rs1 × IsRegister rs2
Valid (Sra rd rs1 rs2) = IsRegister rd × IsRegister rs1 × IsRegister rs2
Valid (Or rd rs1 rs2) = IsRegister rd × IsRegister rs1 × IsRegister rs2
Valid (And rd rs1 rs2) = IsRegister rd × IsRegister rs1 × IsRegister rs2
Valid (Mul rd rs1 rs2) = IsRegister rd × IsRegister rs1 × IsRegister rs2
Valid (Mulh rd rs1 rs2) = IsRegister rd × IsRegister rs1 × IsRegister rs2
Valid (Mulhsu rd rs1 rs2) = IsRegister rd × IsRegister rs1 × IsRegister rs2
Valid (Mulhu rd rs1 rs2) = IsRegister rd × IsRegister rs1 × IsRegister rs2
Valid (Div rd rs1 rs2) = IsRegister rd × IsRegister rs1 × IsRegister rs2
Valid (Divu rd rs1 rs2) = IsRegister rd × IsRegister rs1 × IsRegister rs2
Valid (Rem rd rs1 rs2) = IsRegister rd × IsRegister rs1 × IsRegister rs2
Valid (Remu rd rs1 rs2) = IsRegister rd × IsRegister rs1 × IsRegister rs2
Valid (Fence rd rs1 bits) = IsRegister rd × IsRegister rs1 × (bits < 4096)
Valid Ecall = Unit {0}
Valid Ebreak = Unit {0}

-- the word of its six fields: opcode in bits 6 to 0, rd in 11 to 7, funct3 in 14 to 12, rs1 in 19 to 15,
-- rs2 in 24 to 20, funct7 in 31 to 25
abbrev pub pack : (opcode rd funct3 rs1 rs2 funct7 : ℕ) → ℕ
pack opcode rd funct3 rs1 rs2 funct7 = opcode + 128 * rd + 4096 * funct3 + 32768 * rs1 + 1048576 * rs2 + 33554432 * funct7

-- a word of format R: three registers
abbrev pub r_word : (funct3 funct7 rd rs1 rs2 : ℕ) → ℕ
r_word funct3 funct7 rd rs1 rs2 = pack 0x33 rd funct3 rs1 rs2 funct7

-- a word of format I: a 12-bit immediate in bits 31 to 20
abbrev pub i_word : (opcode funct3 rd rs1 imm : ℕ) → ℕ
i_word opcode funct3 rd rs1 imm = pack opcode rd funct3 rs1 (imm % 32) (imm / 32)

-- a word of format S: a 12-bit immediate, its bits 11 to 5 in bits 31 to 25, its bits 4 to 0 in bits 11 to 7
abbrev pub s_word : (funct3 rs1 rs2 imm : ℕ) → ℕ
s_word funct3 rs1 rs2 imm = pack 0x23 (imm % 32) funct3 rs1 rs2 (imm / 32)

-- a word of format B: a 13-bit offset, its bits 12 and 10 to 5 in bits 31 and 30 to 25, its bits 4 to 1
-- and 11 in bits 11 to 8 and 7
abbrev pub b_word : (funct3 rs1 rs2 imm : ℕ) → ℕ
b_word funct3 rs1 rs2 imm = pack 0x63 (imm / 2 % 16 * 2 + imm / 2048 % 2) funct3 rs1 rs2 (imm / 4096 * 64 + imm / 32 % 64)

-- a word of format U: a 20-bit immediate in bits 31 to 12
abbrev pub u_word : (opcode rd imm : ℕ) → ℕ
u_word opcode rd imm = pack opcode rd (imm % 8) (imm / 8 % 32) (imm / 256 % 32) (imm / 8192)

-- the 20 bits of a 21-bit offset as format J orders them: bits 20, 10 to 1, 11 and 19 to 12
abbrev pub j_field : ℕ → ℕ
j_field imm = imm / 1048576 * 524288 + imm / 2 % 1024 * 512 + imm / 2048 % 2 * 256 + imm / 4096 % 256

-- the word that spells an instruction
abbrev pub encode : Instr → ℕ
encode (Lui rd imm) = u_word 0x37 rd imm
encode (Auipc rd imm) = u_word 0x17 rd imm
encode (Jal rd imm) = u_word 0x6f rd (j_field imm)
encode (Jalr rd rs1 imm) = i_word 0x67 0 rd rs1 imm
encode (Beq rs1 rs2 imm) = b_word 0 rs1 rs2 imm
encode (Bne rs1 rs2 imm) = b_word 1 rs1 rs2 imm
encode (Blt rs1 rs2 imm) = b_word 4 rs1 rs2 imm
encode (Bge rs1 rs2 imm) = b_word 5 rs1 rs2 imm
encode (Bltu rs1 rs2 imm) = b_word 6 rs1 rs2 imm
encode (Bgeu rs1 rs2 imm) = b_word 7 rs1 rs2 imm
encode (Lb rd rs1 imm) = i_word 0x03 0 rd rs1 imm
encode (Lh rd rs1 imm) = i_word 0x03 1 rd rs1 imm
encode (Lw rd rs1 imm) = i_word 0x03 2 rd rs1 imm
encode (Lbu rd rs1 imm) = i_word 0x03 4 rd rs1 imm
encode (Lhu rd rs1 imm) = i_word 0x03 5 rd rs1 imm
encode (Sb rs1 rs2 imm) = s_word 0 rs1 rs2 imm
encode (Sh rs1 rs2 imm) = s_word 1 rs1 rs2 imm
encode (Sw rs1 rs2 imm) = s_word 2 rs1 rs2 imm
encode (Addi rd rs1 imm) = i_word 0x13 0 rd rs1 imm
encode (Slti rd rs1 imm) = i_word 0x13 2 rd rs1 imm
encode (Sltiu rd rs1 imm) = i_word 0x13 3 rd rs1 imm
encode (Xori rd rs1 imm) = i_word 0x13 4 rd rs1 imm
encode (Ori rd rs1 imm) = i_word 0x13 6 rd rs1 imm
encode (Andi rd rs1 imm) = i_word 0x13 7 rd rs1 imm
encode (Slli rd rs1 amount) = pack 0x13 rd 1 rs1 amount 0
encode (Srli rd rs1 amount) = pack 0x13 rd 5 rs1 amount 0
encode (Srai rd rs1 amount) = pack 0x13 rd 5 rs1 amount 0x20
encode (Add rd rs1 rs2) = r_word 0 0 rd rs1 rs2
encode (Sub rd rs1 rs2) = r_word 0 0x20 rd rs1 rs2
encode (Sll rd rs1 rs2) = r_word 1 0 rd rs1 rs2
encode (Slt rd rs1 rs2) = r_word 2 0 rd rs1 rs2
encode (Sltu rd rs1 rs2) = r_word 3 0 rd rs1 rs2
encode (Xor rd rs1 rs2) = r_word 4 0 rd rs1 rs2
encode (Srl rd rs1 rs2) = r_word 5 0 rd rs1 rs2
encode (Sra rd rs1 rs2) = r_word 5 0x20 rd rs1 rs2
encode (Or rd rs1 rs2) = r_word 6 0 rd rs1 rs2
encode (And rd rs1 rs2) = r_word 7 0 rd rs1 rs2
encode (Mul rd rs1 rs2) = r_word 0 1 rd rs1 rs2
encode (Mulh rd rs1 rs2) = r_word 1 1 rd rs1 rs2
encode (Mulhsu rd rs1 rs2) = r_word 2 1 rd rs1 rs2
encode (Mulhu rd rs1 rs2) = r_word 3 1 rd rs1 rs2
encode (Div rd rs1 rs2) = r_word 4 1 rd rs1 rs2
encode (Divu rd rs1 rs2) = r_word 5 1 rd rs1 rs2
encode (Rem rd rs1 rs2) = r_word 6 1 rd rs1 rs2
encode (Remu rd rs1 rs2) = r_word 7 1 rd rs1 rs2
encode (Fence rd rs1 bits) = i_word 0x0f 0 rd rs1 bits
encode Ecall = 0x00000073
encode Ebreak = 0x00100073

-- the immediate of format I, by the fields of its word
abbrev pub i_imm : (rs2 funct7 : ℕ) → ℕ
i_imm rs2 funct7 = rs2 + 32 * funct7

-- the immediate of format S
abbrev pub s_imm : (rd funct7 : ℕ) → ℕ
s_imm rd funct7 = rd + 32 * funct7

-- the offset of format B
abbrev pub b_imm : (rd funct7 : ℕ) → ℕ
b_imm rd funct7 = rd / 2 * 2 + funct7 % 64 * 32 + rd % 2 * 2048 + funct7 / 64 * 4096

-- the immediate of format U
abbrev pub u_imm : (funct3 rs1 rs2 funct7 : ℕ) → ℕ
u_imm funct3 rs1 rs2 funct7 = funct3 + 8 * rs1 + 256 * rs2 + 8192 * funct7

-- the offset of format J, by the upper 20 bits of its word
abbrev pub j_imm : ℕ → ℕ
j_imm field = field / 512 % 1024 * 2 + field / 256 % 2 * 2048 + field % 256 * 4096 + field / 524288 * 1048576

-- the branches, by funct3
unfoldable pub branch_of : (funct3 rs1 rs2 imm : ℕ) → Option Instr
branch_of funct3 rs1 rs2 imm =
    cond (nat_eq funct3 0) (Some (Beq rs1 rs2 imm)) (
    cond (nat_eq funct3 1) (Some (Bne rs1 rs2 imm)) (
    cond (nat_eq funct3 4) (Some (Blt rs1 rs2 imm)) (
    cond (nat_eq funct3 5) (Some (Bge rs1 rs2 imm)) (
    cond (nat_eq funct3 6) (Some (Bltu rs1 rs2 imm)) (
    cond (nat_eq funct3 7) (Some (Bgeu rs1 rs2 imm)) None)))))

-- the loads, by funct3
unfoldable pub load_of : (funct3 rd rs1 imm : ℕ) → Option Instr
load_of funct3 rd rs1 imm =
    cond (nat_eq funct3 0) (Some (Lb rd rs1 imm)) (
    cond (nat_eq funct3 1) (Some (Lh rd rs1 imm)) (
    cond (nat_eq funct3 2) (Some (Lw rd rs1 imm)) (
    cond (nat_eq funct3 4) (Some (Lbu rd rs1 imm)) (
    cond (nat_eq funct3 5) (Some (Lhu rd rs1 imm)) None))))

-- the stores, by funct3
unfoldable pub store_of : (funct3 rs1 rs2 imm : ℕ) → Option Instr
store_of funct3 rs1 rs2 imm =
    cond (nat_eq funct3 0) (Some (Sb rs1 rs2 imm)) (
    cond (nat_eq funct3 1) (Some (Sh rs1 rs2 imm)) (
    cond (nat_eq funct3 2) (Some (Sw rs1 rs2 imm)) None))

-- the shifts by an immediate, whose bits 31 to 25 are fixed
unfoldable pub shift_of : (funct3 funct7 rd rs1 amount : ℕ) → Option Instr
shift_of funct3 funct7 rd rs1 amount =
    cond (nat_eq funct7 0) (
    cond (nat_eq funct3 1) (Some (Slli rd rs1 amount)) (
    cond (nat_eq funct3 5) (Some (Srli rd rs1 amount)) None)) (
    cond (nat_eq funct7 0x20) (cond (nat_eq funct3 5) (Some (Srai rd rs1 amount)) None) None)

-- the operations on a register and an immediate, by funct3
unfoldable pub immediate_of : (funct3 rd rs1 rs2 funct7 : ℕ) → Option Instr
immediate_of funct3 rd rs1 rs2 funct7 =
    cond (nat_eq funct3 0) (Some (Addi rd rs1 (i_imm rs2 funct7))) (
    cond (nat_eq funct3 2) (Some (Slti rd rs1 (i_imm rs2 funct7))) (
    cond (nat_eq funct3 3) (Some (Sltiu rd rs1 (i_imm rs2 funct7))) (
    cond (nat_eq funct3 4) (Some (Xori rd rs1 (i_imm rs2 funct7))) (
    cond (nat_eq funct3 6) (Some (Ori rd rs1 (i_imm rs2 funct7))) (
    cond (nat_eq funct3 7) (Some (Andi rd rs1 (i_imm rs2 funct7))) (
    shift_of funct3 funct7 rd rs1 rs2))))))

-- the operations on two registers with funct7 0, by funct3
unfoldable pub base_of : (funct3 rd rs1 rs2 : ℕ) → Option Instr
base_of funct3 rd rs1 rs2 =
    cond (nat_eq funct3 0) (Some (Add rd rs1 rs2)) (
    cond (nat_eq funct3 1) (Some (Sll rd rs1 rs2)) (
    cond (nat_eq funct3 2) (Some (Slt rd rs1 rs2)) (
    cond (nat_eq funct3 3) (Some (Sltu rd rs1 rs2)) (
    cond (nat_eq funct3 4) (Some (Xor rd rs1 rs2)) (
    cond (nat_eq funct3 5) (Some (Srl rd rs1 rs2)) (
    cond (nat_eq funct3 6) (Some (Or rd rs1 rs2)) (
    cond (nat_eq funct3 7) (Some (And rd rs1 rs2)) None)))))))

-- the operations on two registers with funct7 0x20, by funct3
unfoldable pub other_of : (funct3 rd rs1 rs2 : ℕ) → Option Instr
other_of funct3 rd rs1 rs2 =
    cond (nat_eq funct3 0) (Some (Sub rd rs1 rs2)) (
    cond (nat_eq funct3 5) (Some (Sra rd rs1 rs2)) None)

-- the operations on two registers with funct7 1, which are the M extension, by funct3
unfoldable pub product_of : (funct3 rd rs1 rs2 : ℕ) → Option Instr
product_of funct3 rd rs1 rs2 =
    cond (nat_eq funct3 0) (Some (Mul rd rs1 rs2)) (
    cond (nat_eq funct3 1) (Some (Mulh rd rs1 rs2)) (
    cond (nat_eq funct3 2) (Some (Mulhsu rd rs1 rs2)) (
    cond (nat_eq funct3 3) (Some (Mulhu rd rs1 rs2)) (
    cond (nat_eq funct3 4) (Some (Div rd rs1 rs2)) (
    cond (nat_eq funct3 5) (Some (Divu rd rs1 rs2)) (
    cond (nat_eq funct3 6) (Some (Rem rd rs1 rs2)) (
    cond (nat_eq funct3 7) (Some (Remu rd rs1 rs2)) None)))))))

-- the operations on two registers
unfoldable pub register_of : (funct3 funct7 rd rs1 rs2 : ℕ) → Option Instr
register_of funct3 funct7 rd rs1 rs2 =
    cond (nat_eq funct7 0) (base_of funct3 rd rs1 rs2) (
    cond (nat_eq funct7 0x20) (other_of funct3 rd rs1 rs2) (
    cond (nat_eq funct7 1) (product_of funct3 rd rs1 rs2) None))

-- the two whole words of opcode 0x73
unfoldable pub system_of : ℕ → Option Instr
system_of word =
    cond (nat_eq word 0x00000073) (Some Ecall) (
    cond (nat_eq word 0x00100073) (Some Ebreak) None)

-- the instruction that six fields spell, if any
unfoldable pub of_fields : (opcode rd funct3 rs1 rs2 funct7 : ℕ) → Option Instr
of_fields opcode rd funct3 rs1 rs2 funct7 =
    cond (nat_eq opcode 0x37) (Some (Lui rd (u_imm funct3 rs1 rs2 funct7))) (
    cond (nat_eq opcode 0x17) (Some (Auipc rd (u_imm funct3 rs1 rs2 funct7))) (
    cond (nat_eq opcode 0x6f) (Some (Jal rd (j_imm (u_imm funct3 rs1 rs2 funct7)))) (
    cond (nat_eq opcode 0x67) (cond (nat_eq funct3 0) (Some (Jalr rd rs1 (i_imm rs2 funct7))) None) (
    cond (nat_eq opcode 0x63) (branch_of funct3 rs1 rs2 (b_imm rd funct7)) (
    cond (nat_eq opcode 0x03) (load_of funct3 rd rs1 (i_imm rs2 funct7)) (
    cond (nat_eq opcode 0x23) (store_of funct3 rs1 rs2 (s_imm rd funct7)) (
    cond (nat_eq opcode 0x13) (immediate_of funct3 rd rs1 rs2 funct7) (
    cond (nat_eq opcode 0x33) (register_of funct3 funct7 rd rs1 rs2) (
    cond (nat_eq opcode 0x0f) (cond (nat_eq funct3 0) (Some (Fence rd rs1 (i_imm rs2 funct7))) None) (
    cond (nat_eq opcode 0x73) (system_of (pack opcode rd funct3 rs1 rs2 funct7)) None))))))))))

-- a word's major opcode: bits 6 to 0
abbrev pub opcode_of : ℕ → ℕ
opcode_of word = word % 128

-- its field rd: bits 11 to 7
abbrev pub rd_of : ℕ → ℕ
rd_of word = word / 128 % 32

-- its field funct3: bits 14 to 12
abbrev pub funct3_of : ℕ → ℕ
funct3_of word = word / 4096 % 8

-- its field rs1: bits 19 to 15
abbrev pub rs1_of : ℕ → ℕ
rs1_of word = word / 32768 % 32

-- its field rs2: bits 24 to 20
abbrev pub rs2_of : ℕ → ℕ
rs2_of word = word / 1048576 % 32

-- its field funct7: bits 31 to 25
abbrev pub funct7_of : ℕ → ℕ
funct7_of word = word / 33554432

-- the instruction that a word spells, if any
abbrev pub decode : ℕ → Option Instr
decode word = of_fields (opcode_of word) (rd_of word) (funct3_of word) (rs1_of word) (rs2_of word) (funct7_of word)
