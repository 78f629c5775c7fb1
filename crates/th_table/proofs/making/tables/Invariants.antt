use Rattle.std.proofs.Common.{◌≡◌, ℕ, map, take, Some}
use Rattle.std.specs.Prelude.{slice_get}
use Rattle.th_views.specs.Lookups.{class_place}
use Rattle.th_table.specs.declared.shown.TableClass.{TableClass}
use Rattle.th_table.specs.Shown.{IsClassTables}
use Rattle.th_table.proofs.making.tables.Given as goal

abbrev pub invariant-loop-k : goal.invariant-loop-k
invariant-loop-k l = record {
  numbers : map (λ x. x.class) l.list.items ≡ take l.k l.names.items;
  each : (k : ℕ) (x : TableClass) → slice_get l.list.items k ≡ Some x → (c : ℕ) → class_place l.layout x.class ≡ Some c → IsClassTables l.layout c x;
}
