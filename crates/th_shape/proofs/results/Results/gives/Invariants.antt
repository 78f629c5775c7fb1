use Rattle.std.proofs.Common.{◌≡◌, ℕ, drop}
use Rattle.std.specs.Prelude.{nat_eq}
use Rattle.std.specs.Map.{lookup}
use Rattle.std.specs.HashMap.{get}
use Rattle.th_type.specs.Lists.{or_else}
use Rattle.th_views.specs.Lookups.{given_in}
use Rattle.th_shape.proofs.Adding.{placed_kind}
use Rattle.th_shape.proofs.results.Results.gives.Given as goal

abbrev pub invariant-loop-k : goal.invariant-loop-k
invariant-loop-k l = (q : ℕ) → or_else (given_in l.given.items q) (placed_kind (get nat_eq l.places) (lookup (nat_eq q) (drop l.k l.self.of.entries))) ≡ placed_kind (get nat_eq l.places) (lookup (nat_eq q) l.self.of.entries)
