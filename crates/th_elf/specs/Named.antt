-- The names of fields in a report.
use Rattle.std.specs.Prelude.{ℕ, List, codes}
use Rattle.th_elf.specs.declared.error.Field.{Field}
use Rattle.th_elf.specs.declared.error.Field.TheVariants as field

-- a field's name: one word in small letters
abbrev pub name_of : Field → List ℕ
name_of field.Length = codes "length"
name_of field.Magic = codes "magic"
name_of field.Class = codes "class"
name_of field.Order = codes "order"
name_of field.Version = codes "version"
name_of field.Kind = codes "kind"
name_of field.Machine = codes "machine"
name_of field.Flags = codes "flags"
name_of field.Entries = codes "entries"
name_of field.Segment = codes "segment"
