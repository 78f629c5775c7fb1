use Rattle.th_shape.proofs.Walking.{placing_more, kept_marks}
use Rattle.th_shape.proofs.order.place.Goals as goal

pub climb-requires-clause-many : goal.climb-requires-clause-many
climb-requires-clause-many c = c.requires.placing.many

pub returns : goal.returns
returns c = record {
  placing = placing_more c.args.ups.now c.args.marked.now c.climb.new.marked c.args.order.now.items c.emit.new.order.items c.in_ok-path.path.items c.args.from c.requires.ending c.requires.inner c.requires.within c.requires.placing c.in_ok-path.ensures c.in_ok-emit.ensures;
  here = c.in_ok-path.ensures.first;
  kept = kept_marks c.args.ups.now c.args.marked.now c.climb.new.marked c.args.from c.in_ok-path.path.items c.in_ok-path.ensures;
}
