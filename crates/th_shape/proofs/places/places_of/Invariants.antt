use Rattle.std.proofs.Common.{◌≡◌, ◌++◌, map, drop}
use Rattle.std.specs.Prelude.{nat_eq}
use Rattle.std.specs.HashMap.{get}
use Rattle.th_type.specs.Types.{ty_of}
use Rattle.th_shape.specs.Placed.{places_by}
use Rattle.th_shape.proofs.places.places_of.Given as goal

abbrev pub invariant-loop-ty : goal.invariant-loop-ty
invariant-loop-ty l = l.found.items ++ places_by (get nat_eq l.places) (map ty_of (drop l.ty-index l.types)) ≡ places_by (get nat_eq l.places) (map ty_of l.types)
