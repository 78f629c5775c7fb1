use Rattle.th_weights.proofs.Weighing.{sums_step}
use Rattle.th_weights.proofs.weights.sums_of.Goals as goal

pub loop-size-preserved : goal.loop-size-preserved
loop-size-preserved c =
    sums_step c.loop-size.left.items c.pop.new.self.items c.in-Some.size c.saturating_sub.result c.loop-size.words c.in_ok-words.words c.loop-size.own c.in_ok-own.own _ _
    c.in-Some.ensures.items c.saturating_sub.ensures c.in_ok-words.ensures c.in_ok-own.ensures c.loop-size.invariant.0 c.loop-size.invariant.1
