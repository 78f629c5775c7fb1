use Rattle.std.proofs.Common.{◌≡◌, ◌<◌, ℕ, false, get_or}
use Rattle.th_rv.specs.Memory.{Area, has}
use Rattle.th_mach.proofs.memory.covering.Given as goal

abbrev pub invariant-loop-k : goal.invariant-loop-k
invariant-loop-k l = (j : ℕ) (d : Area) → j < l.k → has (get_or l.areas j d) l.at ≡ false
