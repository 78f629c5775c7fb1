use Rattle.std.proofs.Common.{arith}
use Rattle.th_meaning.specs.View.{unit_of}
use Rattle.th_meaning.specs.Counts.{unit_nodes}
use Rattle.th_link_counts.proofs.Sums.{sum_more, sum_all}
use Rattle.th_link_counts.proofs.nodes.units_nodes.Goals as goal

pub loop-unit-preserved : goal.loop-unit-preserved
loop-unit-preserved c =
    sum_more unit_of unit_nodes c.args.units.now c.loop-unit.unit-index c.unit-item.result c.loop-unit.sum c.nodes.result c.saturating_add-sum.result
    c.loop-unit-test.true c.unit-item.is c.nodes.ensures c.saturating_add-sum.ensures c.loop-unit.invariant

pub returns : goal.returns
returns c = sum_all unit_of unit_nodes c.args.units.now c.loop-unit.unit-index c.loop-unit.sum c.loop-unit-test.false c.loop-unit.invariant
