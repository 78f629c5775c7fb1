use Rattle.std.proofs.Common.{◌≡◌, ℕ, drop}
use Rattle.std.specs.Prelude.{nat_eq}
use Rattle.std.specs.Map.{lookup}
use Rattle.th_type.specs.Lists.{or_else}
use Rattle.th_shape.specs.Results.{picked}
use Rattle.th_shape.proofs.results.Results.add_picked.Given as goal

abbrev pub invariant-loop-method : goal.invariant-loop-method
invariant-loop-method l = (q : ℕ) → or_else (lookup (nat_eq q) l.self.of.entries) (picked (drop l.method-index l.methods) (lookup (nat_eq q) l.from.of.entries) q)
    ≡ or_else (lookup (nat_eq q) l.fn.self.of.entries) (picked l.methods (lookup (nat_eq q) l.from.of.entries) q)
