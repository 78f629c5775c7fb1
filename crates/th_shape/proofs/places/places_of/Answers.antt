use Rattle.std.specs.Prelude.{nat_eq}
use Rattle.std.specs.HashMap.{get}
use Rattle.th_shape.proofs.Steps.{places_step, places_end}
use Rattle.th_shape.proofs.places.places_of.Goals as goal

pub loop-ty-preserved : goal.loop-ty-preserved
loop-ty-preserved c = places_step (get nat_eq c.args.places.now) c.args.types.now c.loop-ty.ty-index c.ty-item.result c.ty-item.result c.loop-ty.found.items c.push_some.new.found.items _ c.place_of-place.result c.loop-ty-test.true c.ty-item.is c.place_of-place.ensures c.in_ok-push_some.ensures c.loop-ty.invariant

pub returns : goal.returns
returns c = places_end (get nat_eq c.args.places.now) c.args.types.now c.loop-ty.ty-index c.loop-ty.found.items _ c.loop-ty-test.false c.loop-ty.invariant
