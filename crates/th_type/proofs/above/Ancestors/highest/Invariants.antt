use Rattle.std.proofs.Common.{◌≤◌, ◌<◌, ◌^◌, ℕ, length, take}
use Rattle.th_type.specs.declared.above.Above.{Above}
use Rattle.th_type.specs.Lists.{IsIn}
use Rattle.th_type.proofs.above.Ancestors.highest.Given as goal

abbrev pub invariant-loop-k : goal.invariant-loop-k
invariant-loop-k l = record {
  bound : (e : ℕ × Above) → IsIn e (take l.k l.self.map.entries) → length e.1.map.entries ≤ l.highest;
  small : l.highest < 2 ^ 63;
}
