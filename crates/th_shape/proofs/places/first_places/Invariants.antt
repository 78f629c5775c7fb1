use Rattle.std.proofs.Common.{◌≡◌, ℕ, drop}
use Rattle.std.specs.Prelude.{nat_eq}
use Rattle.std.specs.HashMap.{get}
use Rattle.th_type.specs.Lists.{or_else}
use Rattle.th_shape.specs.Places.{index_from}
use Rattle.th_shape.proofs.places.first_places.Given as goal

abbrev pub invariant-loop-k : goal.invariant-loop-k
invariant-loop-k l = (q : ℕ) → or_else (get nat_eq l.map q) (index_from l.k (drop l.k l.numbers) q) ≡ index_from 0 l.numbers q
