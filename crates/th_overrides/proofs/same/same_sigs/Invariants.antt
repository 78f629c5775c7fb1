use Rattle.std.proofs.Common.{◌≡◌, length, map, drop}
use Rattle.th_type.specs.Signatures.{sig_of}
use Rattle.th_overrides.specs.Same.{equal_sigs, same_lists}
use Rattle.th_overrides.proofs.same.same_sigs.Given as goal

abbrev pub invariant-loop-k : goal.invariant-loop-k
invariant-loop-k l = (length l.a ≡ length l.b) × (same_lists equal_sigs (map sig_of (drop l.k l.a)) (map sig_of (drop l.k l.b)) ≡ same_lists equal_sigs (map sig_of l.a) (map sig_of l.b))
