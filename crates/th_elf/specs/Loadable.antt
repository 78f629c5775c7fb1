-- Which files are loadable, and what they are loaded as.
use Rattle.std.specs.Prelude.{◌≡◌, ◌++◌, Some, ℕ, zero, suc, ◌+◌, ◌*◌, ◌%◌, List, [], ◌∷◌, length, take, drop, map, filter, find, Option, Bool, true, not, ◌&&◌, ◌||◌, nat_lt, nat_le, nat_eq, slice_index}
use Rattle.std.specs.List.{list_all}
use Rattle.th_elf.specs.declared.error.Field.{Field}
use Rattle.th_elf.specs.declared.error.Field.TheVariants as field
use Rattle.th_elf.specs.declared.error.ElfError.{ElfError}
use Rattle.th_elf.specs.declared.error.ElfError.TheVariants.{BadElf, Memory}
use Rattle.th_elf.specs.declared.header.Header.{Header}
use Rattle.th_elf.specs.declared.segments.Segment.{Segment}
use Rattle.th_elf.specs.declared.segments.Segments.{Segments}

-- the byte at a place of a file
abbrev pub byte_of : List ℕ → ℕ → ℕ
byte_of file at = slice_index file at

-- the number of 16 bits at a place of a file, the low byte first
abbrev pub half_of : List ℕ → ℕ → ℕ
half_of file at = byte_of file at + 256 * byte_of file (at + 1)

-- the number of 32 bits at a place of a file, the lowest byte first
abbrev pub word_of : List ℕ → ℕ → ℕ
word_of file at = byte_of file at + 256 * byte_of file (at + 1) + 65536 * byte_of file (at + 2) + 16777216 * byte_of file (at + 3)

-- the program header at a place of a file
unfoldable pub header_at : List ℕ → ℕ → Header
header_at file at = record {
  kind = word_of file at;
  offset = word_of file (at + 4);
  vaddr = word_of file (at + 8);
  filesz = word_of file (at + 16);
  memsz = word_of file (at + 20);
  flags = word_of file (at + 24);
}

-- the n program headers from a place on
abbrev pub headers_from : List ℕ → ℕ → ℕ → List Header
headers_from file zero at = []
headers_from file (suc n) at = header_at file at ∷ headers_from file n (at + 32)

-- the place of the first program header (phoff), the bytes of each (phentsize), and how many there are (phnum)
abbrev pub first_header : List ℕ → ℕ
first_header file = word_of file 28

abbrev pub header_size : List ℕ → ℕ
header_size file = half_of file 42

abbrev pub header_count : List ℕ → ℕ
header_count file = half_of file 44

-- whether a program header is of something loaded: its type is 1 (PT_LOAD) and its memsz is above 0
abbrev pub is_loaded : Header → Bool
is_loaded h = nat_eq h.kind 1 && nat_lt 0 h.memsz

-- the program headers of what is loaded, in the file's order
abbrev pub loaded_headers : List ℕ → List Header
loaded_headers file = filter is_loaded (headers_from file (header_count file) (first_header file))

-- whether so many bytes from a place on lie in a file; no byte lies anywhere
abbrev pub lies_in : List ℕ → ℕ → ℕ → Bool
lies_in file at n = nat_eq n 0 || nat_le (at + n) (length file)

-- whether a segment by itself is lawful: filesz at most memsz, its bytes in the file, its addresses below 0x08000000
abbrev pub is_placed : List ℕ → Header → Bool
is_placed file h = nat_le h.filesz h.memsz && lies_in file h.offset h.filesz && nat_le (h.vaddr + h.memsz) 0x08000000

-- whether two segments have no address in common
abbrev pub are_apart : Header → Header → Bool
are_apart h k = nat_le (h.vaddr + h.memsz) k.vaddr || nat_le (k.vaddr + k.memsz) h.vaddr

-- whether no segment of a list has an address of an earlier one
abbrev pub are_all_apart : List Header → Bool
are_all_apart [] = true
are_all_apart (h ∷ hs) = list_all (are_apart h) hs && are_all_apart hs

-- whether a file meets the condition on a field
abbrev pub meets : List ℕ → Field → Bool
meets file field.Length = nat_le 52 (length file)
meets file field.Magic = nat_eq (byte_of file 0) 0x7F && nat_eq (byte_of file 1) 0x45 && nat_eq (byte_of file 2) 0x4C && nat_eq (byte_of file 3) 0x46
meets file field.Class = nat_eq (byte_of file 4) 1
meets file field.Order = nat_eq (byte_of file 5) 1
meets file field.Version = nat_eq (byte_of file 6) 1 && nat_eq (word_of file 20) 1
meets file field.Kind = nat_eq (half_of file 16) 2
meets file field.Machine = nat_eq (half_of file 18) 243
meets file field.Flags = nat_eq (word_of file 36 % 2) 0
meets file field.Entries = nat_eq (header_count file) 0 || (nat_eq (header_size file) 32 && lies_in file (first_header file) (32 * header_count file))
meets file field.Segment = list_all (is_placed file) (loaded_headers file) && are_all_apart (loaded_headers file)

-- the fields of the header and of the table of program headers, in the order in which they are judged
abbrev pub header_fields : List Field
header_fields = field.Length ∷ field.Magic ∷ field.Class ∷ field.Order ∷ field.Version ∷ field.Kind ∷ field.Machine ∷ field.Flags ∷ field.Entries ∷ []

-- all fields in the order in which they are judged
abbrev pub fields : List Field
fields = header_fields ++ field.Segment ∷ []

-- the first of some fields whose condition a file doesn't meet
abbrev pub first_of : List ℕ → List Field → Option Field
first_of file fs = find (λ f. not (meets file f)) fs

-- the first field whose condition a file doesn't meet; none where the file is loadable
unfoldable pub first_failing : List ℕ → Option Field
first_failing file = first_of file fields

-- what a program header's segment is loaded as: memsz bytes at vaddr, the first filesz of them from the file
unfoldable pub segment_of : List ℕ → Header → Segment
segment_of file h = record { at = h.vaddr; flags = h.flags; size = h.memsz; bytes = take h.filesz (drop h.offset file) }

-- what a loadable file is loaded as
unfoldable pub segments_of : List ℕ → Segments
segments_of file = record { entry = word_of file 24; list = map (segment_of file) (loaded_headers file) }

-- the error where a file can't be read: of a file that isn't loadable the first failing field
abbrev pub Refuses : List ℕ → ElfError → Type 0
Refuses file (BadElf field) = first_failing file ≡ Some field
Refuses file Memory = Unit {0}
