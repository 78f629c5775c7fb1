-- The dump of tables, byte for byte.
use Rattle.std.specs.Prelude.{ℕ, zero, suc, ◌+◌, List, [], ◌∷◌, ◌++◌, map, codes, slice_get, unwrap_or}
use Rattle.std.specs.Fmt.{decimal, signed_decimal}
use Rattle.th_views.specs.declared.Slot.{Slot}
use Rattle.th_table.specs.declared.put.Piece.{Piece}
use Rattle.th_table.specs.declared.put.Piece.TheVariants.{Text, Name, Number, Index, Offset, Bridge}
use Rattle.th_table.specs.declared.shown.Table.{Table}
use Rattle.th_table.specs.declared.shown.TableClass.{TableClass}

-- one text after another
abbrev pub joined : List (List ℕ) → List ℕ
joined [] = []
joined (t ∷ ts) = t ++ joined ts

-- the name with a number; nothing where there is none
abbrev pub name_at : List (List ℕ) → ℕ → List ℕ
name_at names n = unwrap_or (slice_get names n) []

-- the mark of a bridge: `+` and its distance, nothing without a bridge
abbrev pub bridge_mark : ℕ → List ℕ
bridge_mark zero = []
bridge_mark (suc n) = 43 ∷ decimal (suc n)

-- the bytes of a piece
abbrev pub piece_bytes : List (List ℕ) → Piece → List ℕ
piece_bytes names (Text t) = t.now
piece_bytes names (Name n) = name_at names n
piece_bytes names (Number n) = decimal n
piece_bytes names (Index n) = decimal n
piece_bytes names (Offset z) = signed_decimal z
piece_bytes names (Bridge n) = bridge_mark n

-- `OFFSET METHOD CLASS.METHOD`, and the mark of a bridge
abbrev pub slot_line : List (List ℕ) → Slot → List ℕ
slot_line names s = joined (signed_decimal s.offset ∷ codes " " ∷ name_at names s.method ∷ codes " " ∷ name_at names s.body ∷ codes "." ∷ name_at names s.method ∷ bridge_mark s.bridge ∷ codes "\n" ∷ [])

-- `word K distance D`
abbrev pub word_line : ℕ → ℕ → List ℕ
word_line k d = joined (codes "word " ∷ decimal k ∷ codes " distance " ∷ decimal d ∷ codes "\n" ∷ [])

-- `class NAME words W fields F where H size S`
abbrev pub class_line : List (List ℕ) → TableClass → List ℕ
class_line names t = joined (codes "class " ∷ name_at names t.class ∷ codes " words " ∷ decimal t.words ∷ codes " fields " ∷ decimal t.fields ∷ codes " where " ∷ decimal t.wheres ∷ codes " size " ∷ decimal t.size ∷ codes "\n" ∷ [])

-- a table: the line of its header word, and those of its slots
abbrev pub table_dump : List (List ℕ) → ℕ → Table → List ℕ
table_dump names k t = word_line k t.distance ++ joined (map (slot_line names) t.slots.items)

-- tables, the first of which is that of the k-th header word
abbrev pub tables_dump : List (List ℕ) → ℕ → List Table → List ℕ
tables_dump names k [] = []
tables_dump names k (t ∷ ts) = table_dump names k t ++ tables_dump names (k + 1) ts

abbrev pub class_dump : List (List ℕ) → TableClass → List ℕ
class_dump names t = class_line names t ++ tables_dump names 0 t.tables.items

-- the dump of all classes
abbrev pub dump_of : List (List ℕ) → List TableClass → List ℕ
dump_of names ts = joined (map (class_dump names) ts)
