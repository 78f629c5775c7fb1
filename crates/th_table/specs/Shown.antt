-- What the tables of classes are.
use Rattle.std.specs.Prelude.{◌≡◌, ℕ, ◌*◌, List, map, length, slice_get, IsSome, Some}
use Rattle.std.specs.List.Sorted.{IsPermutation, IsSorted}
use Rattle.std.specs.Ordering.{nat_cmp}
use Rattle.th_type.specs.Lists.{IsIn}
use Rattle.th_views.specs.Chain.{words, wheres_in, fields_in, size}
use Rattle.th_views.specs.Lookups.{class_place}
use Rattle.th_views.specs.Rows.{Program, chain_of}
use Rattle.th_layout.specs.Runs.{IsTable}
use Rattle.th_table.specs.declared.shown.Table.{Table}
use Rattle.th_table.specs.declared.shown.TableClass.{TableClass}
use Rattle.th_table.specs.declared.shown.Tables.{Tables}

-- the table at a header word of the class at a place: its middle word leads to the anchor, and its slots are those of the layout
pub record IsTableAt (p : Program) (c w : ℕ) (t : Table) : Type 0 where
  pub distance : t.distance ≡ 4 * w
  pub slots : IsTable p c w t.slots.items

-- the tables at the first header words
abbrev pub TablesAt : Program → ℕ → List Table → Type 0
TablesAt p c ts = (w : ℕ) (t : Table) → slice_get ts w ≡ Some t → IsTableAt p c w t

-- the tables of the class at a place, one for each header word, with what its objects hold
pub record IsClassTables (p : Program) (c : ℕ) (t : TableClass) : Type 0 where
  pub many : length t.tables.items ≡ words (chain_of p c)
  pub words : t.words ≡ words (chain_of p c)
  pub fields : t.fields ≡ fields_in (chain_of p c)
  pub wheres : t.wheres ≡ wheres_in (chain_of p c)
  pub size : t.size ≡ size (chain_of p c)
  pub each : TablesAt p c t.tables.items

-- each number is that of a class of the program
abbrev pub AllOfLayout : Program → List ℕ → Type 0
AllOfLayout p names = (n : ℕ) → IsIn n names → IsSome (class_place p n)

-- the tables of the classes with these numbers, ascending
pub record IsTables (p : Program) (names : List ℕ) (t : Tables) : Type 0 where
  pub ascending : IsSorted nat_cmp (map (λ x. x.class) t.list.items)
  pub all : IsPermutation names (map (λ x. x.class) t.list.items)
  pub each : (k c : ℕ) (x : TableClass) → slice_get t.list.items k ≡ Some x → class_place p x.class ≡ Some c → IsClassTables p c x
