-- The rows of classes.
use Rattle.std.specs.Prelude.{◌≡◌, ℕ, List, [], ◌∷◌, find, Option, Some, None, option_map, option_copied, is_some, bytes_eq, if◌then◌else◌}
use Rattle.std.specs.HashMap.{HashMap, get_by}
use denote.Ref.{Bor}
use Rattle.th_meaning.specs.View.{class_of}
use Rattle.th_meaning.specs.Program.{ProgramClass, Program, classes_of, method_name, has_body}
use Rattle.th_units.specs.Units.{unit_number}
use Rattle.th_classes.specs.Numbers.{class_number, above_number}
use Rattle.th_classes.specs.declared.row.ClassRow.{ClassRow}
use Rattle.th_classes.specs.declared.classes.ClassTable.{ClassTable}

-- each of these methods of a class has the number of the unit of its body, where there is one, and no other method is there
abbrev pub Bodies : {S : Type 0} → Program → (class : List ℕ) → List (List ℕ) → HashMap (Bor (List ℕ)) (Option ℕ) S → Type 0
Bodies p class methods bodies = (m : List ℕ) → get_by (λ k. bytes_eq m k.now) bodies ≡ (if is_some (find (λ x. bytes_eq x m) methods) then Some (unit_number p (method_name class m)) else None)

-- the row is that of the class
pub record IsClassRow (p : Program) (row : ClassRow) (c : ProgramClass) : Type 0 where
  pub class : class_of row.class.now ≡ c
  pub above : row.above ≡ above_number p c
  pub methods : Bodies p c.head.name c.methods row.methods

-- the rows are those of the classes
abbrev pub RowsAre : Program → List ClassRow → List ProgramClass → Type 0
RowsAre p [] [] = Unit {0}
RowsAre p [] (c ∷ cs) = ⊥
RowsAre p (row ∷ rows) [] = ⊥
RowsAre p (row ∷ rows) (c ∷ cs) = IsClassRow p row c × RowsAre p rows cs

-- a row is there exactly where the class is, and is its row
abbrev pub RowIs : Program → Option ClassRow → Option ProgramClass → Type 0
RowIs p None None = Unit {0}
RowIs p None (Some c) = ⊥
RowIs p (Some row) None = ⊥
RowIs p (Some row) (Some c) = IsClassRow p row c

-- the same of a row that is lent
abbrev pub FindsRow : Program → Option (Bor ClassRow) → Option ProgramClass → Type 0
FindsRow p row c = RowIs p (option_copied row) c

-- the table is that of the program's classes
pub record IsClassTable (table : ClassTable) (p : Program) : Type 0 where
  pub rows : RowsAre p table.rows.items (classes_of p)
  pub numbers : (name : List ℕ) → get_by (λ k. bytes_eq name k.now) table.numbers ≡ class_number p name

-- the number of the unit of the first body of a method among classes
abbrev pub body_in : Program → (method : List ℕ) → List ProgramClass → Option (Option ℕ)
body_in p m cs = option_map (λ c. unit_number p (method_name c.head.name m)) (find (has_body m) cs)
