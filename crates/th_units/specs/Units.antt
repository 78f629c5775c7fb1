-- The units of a program by their numbers and names.
use Rattle.std.specs.Prelude.{◌≡◌, ℕ, zero, suc, List, [], ◌∷◌, Option, Some, None, option_map, bytes_eq, if◌then◌else◌}
use Rattle.std.specs.HashMap.{HashMap, get_by}
use denote.Ref.{Bor}
use Rattle.th_meaning.specs.View.{unit_of}
use Rattle.th_meaning.specs.Program.{ProgramUnit, Program, units_of, unit_named}
use Rattle.th_meaning.specs.Counts.{unit_locals, call_weight}
use Rattle.th_units.specs.declared.units.UnitRow.{UnitRow}
use Rattle.th_units.specs.declared.units.UnitTable.{UnitTable}

-- the first that is there
abbrev pub or_else : {A : Type 0} → Option A → Option A → Option A
or_else None o = o
or_else (Some a) o = Some a

-- the place of the first item of a name
abbrev pub number_in : {A : Type 0} → (A → List ℕ) → List A → List ℕ → Option ℕ
number_in named [] name = None
number_in named (x ∷ xs) name = if bytes_eq (named x) name then Some 0 else option_map suc (number_in named xs name)

-- the number of a unit by its full name: its place among all units, in the order of the modules
abbrev pub unit_number : Program → List ℕ → Option ℕ
unit_number p name = number_in (λ u. u.name) (units_of p) name

-- the row is that of the unit of this number
pub record IsRow (n : ℕ) (row : UnitRow) (u : ProgramUnit) : Type 0 where
  pub unit : unit_of row.unit.now ≡ u
  pub number : row.number ≡ n
  pub locals : row.locals ≡ unit_locals u
  pub weight : row.weight ≡ call_weight u

-- the rows are those of the units, whose numbers begin with this one
abbrev pub RowsAre : ℕ → List UnitRow → List ProgramUnit → Type 0
RowsAre n [] [] = Unit {0}
RowsAre n [] (u ∷ us) = ⊥
RowsAre n (row ∷ rows) [] = ⊥
RowsAre n (row ∷ rows) (u ∷ us) = IsRow n row u × RowsAre (suc n) rows us

-- a row is there exactly where the unit is, and is its row
abbrev pub RowIs : ℕ → Option UnitRow → Option ProgramUnit → Type 0
RowIs n None None = Unit {0}
RowIs n None (Some u) = ⊥
RowIs n (Some row) None = ⊥
RowIs n (Some row) (Some u) = IsRow n row u

-- the rows are those of the units, and each name has the number of the first unit of this name
pub record Holds {S : Type 0} (all : List UnitRow) (named : HashMap (Bor (List ℕ)) ℕ S) (units : List ProgramUnit) : Type 0 where
  pub rows : RowsAre 0 all units
  pub numbers : (name : List ℕ) → get_by (λ k. bytes_eq name k.now) named ≡ number_in (λ u. u.name) units name

-- where the name isn't there it gets this
pub record Named {X S : Type 0} (name : List ℕ) (x : X) (old new : HashMap (Bor (List ℕ)) X S) : Type 0 where
  pub names : (other : List ℕ) → get_by (λ k. bytes_eq other k.now) new ≡ or_else (get_by (λ k. bytes_eq other k.now) old) (if bytes_eq name other then Some x else None)

-- the table is that of the program's units
abbrev pub IsTable : UnitTable → Program → Type 0
IsTable table p = Holds table.rows.items table.numbers (units_of p)

-- the row is that of the unit of this name
pub record IsNamed (p : Program) (q : List ℕ) (row : UnitRow) : Type 0 where
  pub unit : unit_named p q ≡ Some (unit_of row.unit.now)
  pub name : (unit_of row.unit.now).name ≡ q
  pub number : unit_number p q ≡ Some row.number
  pub locals : row.locals ≡ unit_locals (unit_of row.unit.now)
  pub weight : row.weight ≡ call_weight (unit_of row.unit.now)

-- the row of the unit of this name, or none where there is none
abbrev pub FindsUnit : Program → List ℕ → Option UnitRow → Type 0
FindsUnit p name None = unit_named p name ≡ None
FindsUnit p name (Some row) = IsNamed p name row
