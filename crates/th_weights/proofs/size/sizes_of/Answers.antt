use Rattle.th_meaning.specs.Program.{classes_of}
use Rattle.th_weights.proofs.Weighing.{sizes_more}
use Rattle.th_weights.proofs.size.sizes_of.Goals as goal

pub loop-number-preserved : goal.loop-number-preserved
loop-number-preserved c = λ p t h.
    sizes_more p c.loop-number.sizes.items c.push.new.self.items (classes_of p) c.loop-number.number c.in_ok-size-in-Some.size c.in-Some.row.now c.in_ok-push-in-Some.ensures.items (c.loop-number.invariant p t h)
    (c.in-Some.ensures p h) (λ k r. c.in_ok-size-in-Some.ensures p k t h r)
