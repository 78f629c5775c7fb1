use Rattle.th_shape.proofs.Steps.{index_end}
use Rattle.th_shape.proofs.places.first_places.Goals as goal

pub returns : goal.returns
returns c = λ q. index_end _ c.loop-k.k c.args.numbers.now q (c.loop-k.invariant q) c.loop-k-test.false
