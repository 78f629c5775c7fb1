use Rattle.std.proofs.Common.{length}
use Rattle.th_inherits.specs.Rows.{rows_of}
use Rattle.th_inherits.proofs.Looping.{noting_next}
use Rattle.th_inherits.proofs.loops.note_loop.Goals as goal

pub loop-step-preserved : goal.loop-step-preserved
loop-step-preserved c =
    noting_next (rows_of c.args.rows.now) c.args.full c.loop-step.at c.in-Some.next (length c.args.rows.now) c.loop-step.step c.loop-step.looped c.add.new.self c.next_class.result c.loop-step-test.true c.in_ok-add.ensures.numbers c.next_class.ensures c.in-Some.is c.if-next-full.false c.loop-step.invariant
