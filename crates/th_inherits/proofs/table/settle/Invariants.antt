use Rattle.std.proofs.Common.{◌≡◌, length}
use Rattle.th_inherits.specs.Rows.{rows_of}
use Rattle.th_inherits.specs.Tables.{AllReached, heights_of, lists_of}
use Rattle.th_inherits.proofs.table.settle.Given as goal

abbrev pub invariant-loop-turn : goal.invariant-loop-turn
invariant-loop-turn l = record {
  reached : AllReached (rows_of l.rows) (heights_of (rows_of l.rows) (lists_of l.table.items));
  long : length l.table.items ≡ length l.rows;
}
