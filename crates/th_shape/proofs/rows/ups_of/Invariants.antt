use Rattle.std.proofs.Common.{◌≡◌, take}
use Rattle.std.specs.Prelude.{nat_eq}
use Rattle.std.specs.HashMap.{get}
use Rattle.th_views.specs.Shapes.{shapes_of}
use Rattle.th_shape.specs.Built.{ups_in}
use Rattle.th_shape.proofs.rows.ups_of.Given as goal

abbrev pub invariant-loop-class : goal.invariant-loop-class
invariant-loop-class l = l.ups.items ≡ ups_in (get nat_eq l.places) (shapes_of (take l.class-index l.classes))
