use Rattle.std.proofs.Common.{◌≡◌, length, drop, nat_eq}
use Rattle.th_overrides.specs.Same.{same_lists}
use Rattle.th_overrides.proofs.same.same_numbers.Given as goal

abbrev pub invariant-loop-k : goal.invariant-loop-k
invariant-loop-k l = (length l.a ≡ length l.b) × (same_lists nat_eq (drop l.k l.a) (drop l.k l.b) ≡ same_lists nat_eq l.a l.b)
