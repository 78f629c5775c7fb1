use Rattle.std.proofs.Common.{◌≡◌, ℕ, drop, option_map}
use Rattle.std.specs.Prelude.{nat_eq}
use Rattle.std.specs.Map.{lookup}
use Rattle.th_type.specs.Lists.{or_else}
use Rattle.th_type.specs.Types.{tys_of, list_of}
use Rattle.th_shape.specs.Heads.{apply_kind}
use Rattle.th_shape.proofs.results.Results.add_all.Given as goal

abbrev pub invariant-loop-k : goal.invariant-loop-k
invariant-loop-k l = (q : ℕ) → or_else (lookup (nat_eq q) l.self.of.entries) (option_map (apply_kind (list_of (tys_of l.args))) (lookup (nat_eq q) (drop l.k l.from.of.entries)))
    ≡ or_else (lookup (nat_eq q) l.fn.self.of.entries) (option_map (apply_kind (list_of (tys_of l.args))) (lookup (nat_eq q) l.from.of.entries))
