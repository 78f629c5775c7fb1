use Rattle.std.proofs.Common.{◌≤◌, length}
use Rattle.theta.proofs.real_files.read_within.Given as goal

abbrev pub invariant-loop-turn : goal.invariant-loop-turn
invariant-loop-turn g l = length l.bytes.items ≤ l.limit
