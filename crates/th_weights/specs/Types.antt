-- Declared types by their names.
use Rattle.std.specs.Prelude.{◌≡◌, ℕ, List, length, option_map, find, bytes_eq}
use Rattle.std.specs.HashMap.{get_by}
use Rattle.th_meaning.specs.View.{type_decl_of}
use Rattle.th_meaning.specs.Program.{TypeDecl, Program, types_of_program}
use Rattle.th_weights.specs.declared.table.TypeTable.{TypeTable}

-- the table has these types, of each name the first, and how many there are
pub record HoldsTypes (table : TypeTable) (all : List TypeDecl) : Type 0 where
  pub count : table.count ≡ length all
  pub types : (name : List ℕ) → option_map (λ d. type_decl_of d.now) (get_by (λ k. bytes_eq name k.now) table.types) ≡ find (λ t. bytes_eq t.name name) all

-- the table is that of the program's declared types
abbrev pub IsTypeTable : TypeTable → Program → Type 0
IsTypeTable table p = HoldsTypes table (types_of_program p)
