use Rattle.std.proofs.Common.{arith}
use Rattle.th_meaning.specs.View.{module_of}
use Rattle.th_meaning.specs.Counts.{module_nodes}
use Rattle.th_link_counts.proofs.Sums.{sum_more, sum_all}
use Rattle.th_link_counts.proofs.nodes.program_nodes.Goals as goal

pub loop-module-preserved : goal.loop-module-preserved
loop-module-preserved c =
    sum_more module_of module_nodes c.args.modules.now c.loop-module.module-index c.module-item.result c.loop-module.sum c.module_nodes.result c.saturating_add-sum.result
    c.loop-module-test.true c.module-item.is c.module_nodes.ensures c.saturating_add-sum.ensures c.loop-module.invariant

pub returns : goal.returns
returns c = sum_all module_of module_nodes c.args.modules.now c.loop-module.module-index c.loop-module.sum c.loop-module-test.false c.loop-module.invariant
