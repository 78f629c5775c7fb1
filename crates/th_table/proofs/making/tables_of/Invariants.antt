use Rattle.std.proofs.Common.{◌≡◌, ℕ, length, Some}
use Rattle.th_views.specs.Lookups.{class_place}
use Rattle.th_table.specs.Shown.{TablesAt}
use Rattle.th_table.proofs.making.tables_of.Given as goal

abbrev pub invariant-loop-word : goal.invariant-loop-word
invariant-loop-word l = record {
  many : length l.tables.items ≡ l.word;
  each : (c : ℕ) → class_place l.layout l.class ≡ Some c → TablesAt l.layout c l.tables.items;
}
