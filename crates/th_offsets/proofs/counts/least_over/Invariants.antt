use Rattle.std.proofs.Common.{◌≡◌, drop}
use Rattle.th_offsets.specs.Counts.{lesser, least_above, paired}
use Rattle.th_offsets.proofs.counts.least_over.Given as goal

abbrev pub invariant-loop-k : goal.invariant-loop-k
invariant-loop-k l = lesser l.least (least_above l.limit (paired (drop l.k l.names) (drop l.k l.counts))) ≡ least_above l.limit (paired l.names l.counts)
