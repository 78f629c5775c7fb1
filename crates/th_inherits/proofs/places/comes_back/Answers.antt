use Rattle.std.proofs.Common.{length}
use Rattle.th_module_rules.specs.Inheriting.{reaches_itself}
use Rattle.th_inherits.specs.Rows.{rows_of}
use Rattle.th_inherits.proofs.Placing.{walk_on}
use Rattle.th_inherits.proofs.places.comes_back.Goals as goal

pub loop-step-preserved : goal.loop-step-preserved
loop-step-preserved c =
    let rows = rows_of c.args.rows.now in
    walk_on rows c.args.full c.loop-step.at c.in-Some.next (length c.args.rows.now) c.loop-step.step c.next_class.result (reaches_itself rows c.args.full) c.loop-step-test.true c.next_class.ensures c.in-Some.is c.if-next-full.false c.loop-step.invariant
