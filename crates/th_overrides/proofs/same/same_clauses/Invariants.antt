use Rattle.std.proofs.Common.{◌≡◌, length, map, drop}
use Rattle.th_type.specs.Signatures.{clause_of}
use Rattle.th_overrides.specs.Same.{equal_clauses, same_lists}
use Rattle.th_overrides.proofs.same.same_clauses.Given as goal

abbrev pub invariant-loop-k : goal.invariant-loop-k
invariant-loop-k l = (length l.a ≡ length l.b) × (same_lists equal_clauses (map clause_of (drop l.k l.a)) (map clause_of (drop l.k l.b)) ≡ same_lists equal_clauses (map clause_of l.a) (map clause_of l.b))
