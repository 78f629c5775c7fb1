use Rattle.std.proofs.Common.{arith}
use Rattle.th_meaning.specs.View.{class_of}
use Rattle.th_meaning.specs.Counts.{class_nodes}
use Rattle.th_link_counts.proofs.Sums.{sum_more, sum_all}
use Rattle.th_link_counts.proofs.nodes.classes_nodes.Goals as goal

pub loop-class-preserved : goal.loop-class-preserved
loop-class-preserved c =
    sum_more class_of class_nodes c.args.classes.now c.loop-class.class-index c.class-item.result c.loop-class.sum c.class_nodes.result c.saturating_add-sum.result
    c.loop-class-test.true c.class-item.is c.class_nodes.ensures c.saturating_add-sum.ensures c.loop-class.invariant

pub returns : goal.returns
returns c = sum_all class_of class_nodes c.args.classes.now c.loop-class.class-index c.loop-class.sum c.loop-class-test.false c.loop-class.invariant
