-- The fields of a word, and the immediates in them.
use Rattle.std.proofs.Common.{◌≡◌, ℕ, ◌+◌, ◌*◌, ◌/◌, ◌%◌, ◌<◌, arith}
use Rattle.th_rv.specs.Table.{pack, opcode_of, rd_of, funct3_of, rs1_of, rs2_of, funct7_of, i_imm, s_imm, b_imm, u_imm, j_imm, j_field, of_fields, decode}

-- the six fields of a word
pub record HasFields (word opcode rd funct3 rs1 rs2 funct7 : ℕ) : Type 0 where
  pub opcode_is : opcode_of word ≡ opcode
  pub rd_is : rd_of word ≡ rd
  pub funct3_is : funct3_of word ≡ funct3
  pub rs1_is : rs1_of word ≡ rs1
  pub rs2_is : rs2_of word ≡ rs2
  pub funct7_is : funct7_of word ≡ funct7

-- the fields of a word are those that it was made of
pub unpack : (opcode rd funct3 rs1 rs2 funct7 : ℕ) → opcode < 128 → rd < 32 → funct3 < 8 → rs1 < 32 → rs2 < 32 → HasFields (pack opcode rd funct3 rs1 rs2 funct7) opcode rd funct3 rs1 rs2 funct7
unpack opcode rd funct3 rs1 rs2 funct7 h1 h2 h3 h4 h5 = record {
  opcode_is = omega arith;
  rd_is = omega arith;
  funct3_is = omega arith;
  rs1_is = omega arith;
  rs2_is = omega arith;
  funct7_is = omega arith;
}

pub decode_pack : (opcode rd funct3 rs1 rs2 funct7 : ℕ) → opcode < 128 → rd < 32 → funct3 < 8 → rs1 < 32 → rs2 < 32 → decode (pack opcode rd funct3 rs1 rs2 funct7) ≡ of_fields opcode rd funct3 rs1 rs2 funct7
decode_pack opcode rd funct3 rs1 rs2 funct7 h1 h2 h3 h4 h5 = let u = unpack opcode rd funct3 rs1 rs2 funct7 h1 h2 h3 h4 h5 in cc (u.opcode_is, u.rd_is, u.funct3_is, u.rs1_is, u.rs2_is, u.funct7_is)

-- a word is made of its fields
pub repack : (word : ℕ) → pack (opcode_of word) (rd_of word) (funct3_of word) (rs1_of word) (rs2_of word) (funct7_of word) ≡ word
repack word = omega arith

-- an immediate, spelled by the fields of its format, is read back
pub i_read : (imm : ℕ) → i_imm (imm % 32) (imm / 32) ≡ imm
i_read imm = omega arith

pub u_read : (imm : ℕ) → u_imm (imm % 8) (imm / 8 % 32) (imm / 256 % 32) (imm / 8192) ≡ imm
u_read imm = omega arith

pub b_read : (imm : ℕ) → imm < 8192 → imm % 2 ≡ 0 → b_imm (imm / 2 % 16 * 2 + imm / 2048 % 2) (imm / 4096 * 64 + imm / 32 % 64) ≡ imm
b_read imm h e = omega arith

pub j_read : (imm : ℕ) → imm < 2097152 → imm % 2 ≡ 0 → j_imm (j_field imm) ≡ imm
j_read imm h e = omega arith

-- fields are those of the immediate that they spell
pub i_spelled : (opcode rd funct3 rs1 rs2 funct7 : ℕ) → rs2 < 32 → pack opcode rd funct3 rs1 (i_imm rs2 funct7 % 32) (i_imm rs2 funct7 / 32) ≡ pack opcode rd funct3 rs1 rs2 funct7
i_spelled opcode rd funct3 rs1 rs2 funct7 h = omega arith

pub s_spelled : (opcode rd funct3 rs1 rs2 funct7 : ℕ) → rd < 32 → pack opcode (s_imm rd funct7 % 32) funct3 rs1 rs2 (s_imm rd funct7 / 32) ≡ pack opcode rd funct3 rs1 rs2 funct7
s_spelled opcode rd funct3 rs1 rs2 funct7 h = omega arith

pub b_spelled : (rd funct3 rs1 rs2 funct7 : ℕ) → rd < 32 → funct7 < 128 → pack 0x63 (b_imm rd funct7 / 2 % 16 * 2 + b_imm rd funct7 / 2048 % 2) funct3 rs1 rs2 (b_imm rd funct7 / 4096 * 64 + b_imm rd funct7 / 32 % 64) ≡ pack 0x63 rd funct3 rs1 rs2 funct7
b_spelled rd funct3 rs1 rs2 funct7 h1 h2 = omega arith

pub u_spelled : (opcode rd funct3 rs1 rs2 funct7 : ℕ) → funct3 < 8 → rs1 < 32 → rs2 < 32 → pack opcode rd (u_imm funct3 rs1 rs2 funct7 % 8) (u_imm funct3 rs1 rs2 funct7 / 8 % 32) (u_imm funct3 rs1 rs2 funct7 / 256 % 32) (u_imm funct3 rs1 rs2 funct7 / 8192) ≡ pack opcode rd funct3 rs1 rs2 funct7
u_spelled opcode rd funct3 rs1 rs2 funct7 h1 h2 h3 = omega arith

pub j_spelled : (field : ℕ) → field < 1048576 → j_field (j_imm field) ≡ field
j_spelled field h = omega arith
