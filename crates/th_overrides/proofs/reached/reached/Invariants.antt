use Rattle.std.proofs.Common.{◌≡◌}
use Rattle.th_overrides.proofs.Reaching.{Reaching}
use Rattle.th_overrides.proofs.reached.reached.Given as goal

abbrev pub invariant-loop-k : goal.invariant-loop-k
invariant-loop-k l = Reaching l.hierarchy.types l.fn.name l.k l.names.items × (l.names.items ≡ l.seen)
