use Rattle.th_offsets.proofs.Tallies.{least_step}
use Rattle.th_offsets.proofs.counts.least_over.Goals as goal

pub loop-k-preserved : goal.loop-k-preserved
loop-k-preserved c = least_step c.args.names.now c.args.counts.now c.loop-k.k c.args.limit c.loop-k.least c.where_over.result c.lesser_of-least.result _
    c.loop-k-test.true c.requires c.where_over.ensures c.lesser_of-least.ensures c.loop-k.invariant
