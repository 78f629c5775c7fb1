use Rattle.std.proofs.Common.{◌≡◌, [], replicate}
use Rattle.th_inherits.specs.Tables.{lists_of}
use Rattle.th_inherits.proofs.table.empty_lists.Given as goal

abbrev pub invariant-loop-k : goal.invariant-loop-k
invariant-loop-k l = lists_of l.table.items ≡ replicate l._k []
