use Rattle.std.proofs.Common.{arith}
use Rattle.th_weights.proofs.Supertypes.{opens_one}
use Rattle.th_weights.proofs.words.open_all.Goals as goal

pub loop-one-preserved : goal.loop-one-preserved
loop-one-preserved c = λ p.
    opens_one p c.args.left.now.items c.loop-one.left.items c.push.new.self.items c.args.steps c.loop-one.one-index c.args.types.now c.one-item.result c.in_ok-of.of
    (omega arith) c.one-item.is c.in_ok-of.ensures c.in_ok-push.ensures.items (c.loop-one.invariant p)
