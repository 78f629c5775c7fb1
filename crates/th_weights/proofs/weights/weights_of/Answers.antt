use Rattle.th_weights.proofs.Weighing.{weights_push, length_push}
use Rattle.th_weights.proofs.weights.weights_of.Goals as goal

pub loop-number-preserved : goal.loop-number-preserved
loop-number-preserved c = (
  length_push c.loop-number.weights.items c.push.new.self.items c.in_ok-weight.weight c.loop-number.number c.in_ok-push.ensures.items c.loop-number.invariant.0,
  λ p h s. weights_push p c.loop-number.weights.items c.push.new.self.items c.in_ok-weight.weight c.loop-number.number c.in_ok-push.ensures.items c.loop-number.invariant.0
      (c.loop-number.invariant.1 p h s) (c.in_ok-weight.ensures p h s),
)
