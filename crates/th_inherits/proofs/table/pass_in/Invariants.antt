use Rattle.th_inherits.specs.Rows.{rows_of}
use Rattle.th_inherits.specs.Tables.{Kept, lists_of}
use Rattle.th_inherits.proofs.table.pass_in.Given as goal

abbrev pub invariant-loop-full : goal.invariant-loop-full
invariant-loop-full l = Kept (rows_of l.rows) (lists_of l.fn.table.items) (lists_of l.table.items)
