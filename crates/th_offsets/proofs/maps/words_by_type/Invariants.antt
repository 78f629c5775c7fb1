use Rattle.std.proofs.Common.{◌≡◌, ℕ, drop}
use Rattle.std.specs.Prelude.{nat_eq}
use Rattle.std.specs.HashMap.{get}
use Rattle.th_views.specs.Listed.{first_of}
use Rattle.th_offsets.specs.Maps.{or_else}
use Rattle.th_offsets.proofs.maps.words_by_type.Given as goal

abbrev pub invariant-loop-spot : goal.invariant-loop-spot
invariant-loop-spot l = (q : ℕ) → or_else (get nat_eq l.map q) (first_of q (drop l.spot-index l.spots)) ≡ first_of q l.spots
