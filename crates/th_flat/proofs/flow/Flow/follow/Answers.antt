use Rattle.th_flat.proofs.FlowLemmas.{too_few, shape_told}
use Rattle.th_flat.proofs.flow.Flow.follow.Goals as goal

pub returns-then-at-shape-clause-wrong : goal.returns-then-at-shape-clause-wrong
returns-then-at-shape-clause-wrong c = λ _ good. too_few _ _ _ _ (shape_told _ _ _ _ _ c.if-at-ops.false c.index-ops-at.is c.as_slice-ops.ensures c.shape_of-shape.ensures.shape) c.if-at-shape.true (c.requires.sound.reached _ _ c.requires.known) good

pub follow_ways-requires-clause-shape : goal.follow_ways-requires-clause-shape
follow_ways-requires-clause-shape c = shape_told _ _ _ _ _ c.if-at-ops.false c.index-ops-at.is c.as_slice-ops.ensures c.shape_of-shape.ensures.shape
