use Rattle.th_inherits.specs.Rows.{rows_of}
use Rattle.th_inherits.specs.Tables.{Kept, lists_of}
use Rattle.th_inherits.proofs.table.spin.Given as goal

abbrev pub invariant-loop-turn : goal.invariant-loop-turn
invariant-loop-turn l = Kept (rows_of l.rows) (lists_of l.fn.table.items) (lists_of l.table.items)
