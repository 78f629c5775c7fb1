use Rattle.std.proofs.Common.{◌≡◌, ◌++◌}
use Rattle.th_inherits.specs.Rows.{rows_of}
use Rattle.th_outlines.proofs.inheriting.joined.Given as goal

abbrev pub invariant-loop-row : goal.invariant-loop-row
invariant-loop-row l = rows_of l.rows.items ++ rows_of l.row-iterator.rest.items ≡ rows_of l.fn.rows.items ++ rows_of l.fn.others.items
