use Rattle.std.proofs.Common.{arith}
use Rattle.front_bench.proofs.Short.{short_more}
use Rattle.front_bench.proofs.program.are_short.Goals as goal

pub loop-text-preserved : goal.loop-text-preserved
loop-text-preserved c = short_more (λ x. x.items) c.args.texts.now c.loop-text.text-index c.text-item.result c.loop-text-test.true c.text-item.is (omega (arith, c.len.ensures, c.if-len-gt-MOST_BYTES.false)) c.loop-text.invariant
