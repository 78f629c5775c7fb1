use Rattle.std.specs.Prelude.{nat_eq}
use Rattle.std.specs.HashMap.{get}
use Rattle.th_shape.proofs.Marking.{noted_step, noted_end}
use Rattle.th_shape.proofs.marks.note_list.Goals as goal

pub loop-k-preserved : goal.loop-k-preserved
loop-k-preserved c = λ q. noted_step c.args.supers.now c.loop-k.k _ _ q _ _ _ c.loop-k-test.true c.index-supers-k.is (c.in_ok-note_type.ensures q) (c.loop-k.invariant q)

pub returns : goal.returns
returns c = λ q. noted_end c.args.supers.now c.loop-k.k c.loop-k.k q _ _ c.loop-k-test.false (c.loop-k.invariant q)
