-- The instructions in groups, as the machine tells them apart one group after the other.
use Rattle.std.specs.Prelude.{ℕ}
use Rattle.th_rv.specs.declared.instr.Instr.{Instr}
use Rattle.th_rv.specs.declared.instr.Instr.TheVariants.{Lui, Auipc, Jal, Jalr, Beq, Bne, Blt, Bge, Bltu, Bgeu, Lb, Lh, Lw, Lbu, Lhu, Sb, Sh, Sw, Addi, Slti, Sltiu, Xori, Ori, Andi, Slli, Srli, Srai, Add, Sub, Sll, Slt, Sltu, Xor, Srl, Sra, Or, And, Mul, Mulh, Mulhsu, Mulhu, Div, Divu, Rem, Remu, Fence, Ecall, Ebreak}

-- the group of an instruction: 0 operations with an immediate, 1 loads and stores, 2 jumps and branches,
-- 3 operations on registers, 4 products and quotients, 5 the others
abbrev pub group : Instr → ℕ
group (Addi rd rs1 imm) = 0
group (Slti rd rs1 imm) = 0
group (Sltiu rd rs1 imm) = 0
group (Xori rd rs1 imm) = 0
group (Ori rd rs1 imm) = 0
group (Andi rd rs1 imm) = 0
group (Slli rd rs1 amount) = 0
group (Srli rd rs1 amount) = 0
group (Srai rd rs1 amount) = 0
group (Lui rd imm) = 0
group (Auipc rd imm) = 0
group (Lb rd rs1 imm) = 1
group (Lh rd rs1 imm) = 1
group (Lw rd rs1 imm) = 1
group (Lbu rd rs1 imm) = 1
group (Lhu rd rs1 imm) = 1
group (Sb rs1 rs2 imm) = 1
group (Sh rs1 rs2 imm) = 1
group (Sw rs1 rs2 imm) = 1
group (Jal rd imm) = 2
group (Jalr rd rs1 imm) = 2
group (Beq rs1 rs2 imm) = 2
group (Bne rs1 rs2 imm) = 2
group (Blt rs1 rs2 imm) = 2
group (Bge rs1 rs2 imm) = 2
group (Bltu rs1 rs2 imm) = 2
group (Bgeu rs1 rs2 imm) = 2
group (Add rd rs1 rs2) = 3
group (Sub rd rs1 rs2) = 3
group (Sll rd rs1 rs2) = 3
group (Slt rd rs1 rs2) = 3
group (Sltu rd rs1 rs2) = 3
group (Xor rd rs1 rs2) = 3
group (Srl rd rs1 rs2) = 3
group (Sra rd rs1 rs2) = 3
group (Or rd rs1 rs2) = 3
group (And rd rs1 rs2) = 3
group (Mul rd rs1 rs2) = 4
group (Mulh rd rs1 rs2) = 4
group (Mulhsu rd rs1 rs2) = 4
group (Mulhu rd rs1 rs2) = 4
group (Div rd rs1 rs2) = 4
group (Divu rd rs1 rs2) = 4
group (Rem rd rs1 rs2) = 4
group (Remu rd rs1 rs2) = 4
group (Fence rd rs1 bits) = 5
group Ecall = 5
group Ebreak = 5
