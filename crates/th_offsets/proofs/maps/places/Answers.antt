use Rattle.th_offsets.proofs.Mapped.{index_end}
use Rattle.th_offsets.proofs.maps.places.Goals as goal

pub returns : goal.returns
returns c = λ q. index_end _ c.loop-k.k c.args.numbers.now q (c.loop-k.invariant q) c.loop-k-test.false
