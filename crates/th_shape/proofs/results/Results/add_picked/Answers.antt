use Rattle.th_shape.proofs.Adding.{picked_step, picked_end}
use Rattle.th_shape.proofs.results.Results.add_picked.Goals as goal

pub loop-method-preserved : goal.loop-method-preserved
loop-method-preserved c = λ q. picked_step c.args.methods.now c.args.from.now.of.entries c.loop-method.method-index q _ _ _ c.get-found.result c.loop-method-test.true c.get-found.ensures (c.in_ok-add_found.ensures q) (c.loop-method.invariant q)

pub returns : goal.returns
returns c = λ q. picked_end c.args.methods.now c.args.from.now.of.entries c.loop-method.method-index q _ _ c.loop-method-test.false (c.loop-method.invariant q)
