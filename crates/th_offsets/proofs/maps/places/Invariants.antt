use Rattle.std.proofs.Common.{◌≡◌, ℕ, drop}
use Rattle.std.specs.Prelude.{nat_eq}
use Rattle.std.specs.HashMap.{get}
use Rattle.th_offsets.specs.Maps.{or_else, index_from}
use Rattle.th_offsets.proofs.maps.places.Given as goal

abbrev pub invariant-loop-k : goal.invariant-loop-k
invariant-loop-k l = (q : ℕ) → or_else (get nat_eq l.map q) (index_from l.k (drop l.k l.numbers) q) ≡ index_from 0 l.numbers q
