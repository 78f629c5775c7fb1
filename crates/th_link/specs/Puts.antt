-- The code and the image of a program that puts bytes.
use Rattle.std.specs.Prelude.{◌≡◌, ℕ, ◌+◌, ◌*◌, ◌<◌, ◌≤◌, List, [], ◌∷◌, ◌++◌, length, map, flat_map}
use Rattle.th_rv.specs.declared.instr.Instr.{Instr}
use Rattle.th_rv.specs.declared.instr.Instr.TheVariants.{Addi, Ecall}
use Rattle.th_rv.specs.Table.{encode}
use Rattle.th_elf.specs.declared.image.Image.{Image}

-- the code of an environment call: its number into a7 (x17), the call
abbrev pub call_code : ℕ → List Instr
call_code number = Addi 17 0 number ∷ Ecall ∷ []

-- the code that puts a byte: the byte into a0 (x10), call 1
abbrev pub put_code : ℕ → List Instr
put_code b = Addi 10 0 b ∷ call_code 1

-- the code that ends the run: call 3
abbrev pub end_code : List Instr
end_code = call_code 3

-- the code of a unit `main` that puts these bytes
abbrev pub puts_code : List ℕ → List Instr
puts_code bytes = flat_map put_code bytes ++ end_code

-- the words of code
abbrev pub code_words : List Instr → List ℕ
code_words code = map encode code

-- the image of a unit that puts these bytes: its code from the first address on, and no tables
abbrev pub puts_image : (unit : List ℕ) → (bytes : List ℕ) → Image
puts_image unit bytes = record {
  code = code_words (puts_code bytes);
  tables = [];
  entry = 0x00010000;
  map = record { at = 0x00010000; unit = unit } ∷ [];
}

-- the image can be written as a file and loaded from it: it is entered at its first code word, and has at most
-- 134,152,192 bytes of code and tables
pub record IsLawful (image : Image) : Type 0 where
  pub entry : image.entry ≡ 0x00010000
  pub some_code : 0 < length image.code
  pub size : 4 * length image.code + length image.tables ≤ 134152192
