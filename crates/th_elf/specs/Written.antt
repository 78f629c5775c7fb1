-- The bytes of the file that an image is written as.
use Rattle.std.specs.Prelude.{ℕ, ◌/◌, ◌%◌, List, [], ◌∷◌, ◌++◌, length, replicate, flat_map}
use Rattle.th_elf.specs.declared.image.Image.{Image}

-- a number of 16 bits as two bytes, the low one first
abbrev pub half_bytes : ℕ → List ℕ
half_bytes n = n % 256 ∷ n / 256 % 256 ∷ []

-- a number of 32 bits as four bytes, the lowest first
abbrev pub word_bytes : ℕ → List ℕ
word_bytes n = n % 256 ∷ n / 256 % 256 ∷ n / 65536 % 256 ∷ n / 16777216 % 256 ∷ []

-- the bytes of words, one word after the other
abbrev pub words_bytes : List ℕ → List ℕ
words_bytes ws = flat_map word_bytes ws

-- the 52 bytes of the file header: ident, type, machine, version, entry, phoff, shoff, flags, ehsize,
-- phentsize, phnum, shentsize, shnum, shstrndx
abbrev pub file_header : ℕ → List ℕ
file_header entry =
    (0x7F ∷ 0x45 ∷ 0x4C ∷ 0x46 ∷ 1 ∷ 1 ∷ 1 ∷ replicate 9 0)
    ++ half_bytes 2 ++ half_bytes 243 ++ word_bytes 1
    ++ word_bytes entry ++ word_bytes 52 ++ word_bytes 0 ++ word_bytes 0
    ++ half_bytes 52 ++ half_bytes 32 ++ half_bytes 1 ++ half_bytes 0 ++ half_bytes 0 ++ half_bytes 0

-- the 32 bytes of the one program header, for so many bytes of content: type, offset, vaddr, paddr, filesz,
-- memsz, flags, align
abbrev pub program_header : ℕ → List ℕ
program_header size =
    word_bytes 1 ++ word_bytes 84 ++ word_bytes 0x00010000 ++ word_bytes 0x00010000
    ++ word_bytes size ++ word_bytes size ++ word_bytes 5 ++ word_bytes 4

-- what an image has in memory: its code words, then its tables
abbrev pub content : Image → List ℕ
content image = words_bytes image.code ++ image.tables

-- the file that an image is written as: the header, one program header, the content
unfoldable pub written : Image → List ℕ
written image = file_header image.entry ++ program_header (length (content image)) ++ content image
