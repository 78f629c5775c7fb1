use Rattle.th_views.specs.Shapes.{shapes_of}
use Rattle.th_shape.proofs.Naming.{names_more, names_end}
use Rattle.th_shape.proofs.rows.ordered_names.Goals as goal

pub loop-k-preserved : goal.loop-k-preserved
loop-k-preserved c = names_more (shapes_of c.args.classes.now) c.args.order.now c.loop-k.k _ c.loop-k.names.items c.push.new.self.items c.loop-k-test.true c.shape_at-shape.ensures c.loop-k.invariant c.in_ok-push.ensures.items

pub returns : goal.returns
returns c = names_end (shapes_of c.args.classes.now) c.args.order.now c.loop-k.k c.loop-k.names.items c.loop-k-test.false c.loop-k.invariant
