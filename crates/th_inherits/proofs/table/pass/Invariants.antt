use Rattle.th_inherits.specs.Rows.{rows_of}
use Rattle.th_inherits.specs.Tables.{Passed, lists_of}
use Rattle.th_inherits.proofs.table.pass.Given as goal

abbrev pub invariant-loop-place : goal.invariant-loop-place
invariant-loop-place l = Passed (rows_of l.rows) l.place (lists_of l.fn.table.items) (lists_of l.table.items) l.grew
