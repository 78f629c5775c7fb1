use Rattle.std.proofs.Common.{◌≡◌, ◌+◌, ◌-◌, ◌^◌, ◌∙◌, List, [], map, drop, sym, ap}
use Rattle.std.specs.Prelude.{fold, min}
use Rattle.std.proofs.Math.ListN.{drop_of_length-le}
use Rattle.th_meaning.specs.declared.declared.CoreUnit.{CoreUnit}
use Rattle.th_meaning.specs.View.{unit_of}
use Rattle.th_meaning.specs.Counts.{unit_nodes}
use Rattle.th_limits.proofs.Counting.{next_sum, sum_there}
use Rattle.th_limits.proofs.units.units_nodes.Goals as goal

pub loop-unit-preserved : goal.loop-unit-preserved
loop-unit-preserved c =
    next_sum unit_of unit_nodes c.args.units.now c.loop-unit.unit-index c.unit-item.result c.loop-unit.sum c.nodes.result c.saturating_add-sum.result _
    c.loop-unit-test.true c.unit-item.is c.nodes.ensures c.saturating_add-sum.ensures c.loop-unit.invariant.0

pub returns : goal.returns
returns c =
    let done : drop c.loop-unit.unit-index c.args.units.now ≡ [] = drop_of_length-le c.args.units.now c.loop-unit-test.false in
    sum_there c.loop-unit.sum c.loop-unit.invariant.1
    ∙ sym (ap (λ (xs : List CoreUnit). min (fold (λ a x. a + unit_nodes x) c.loop-unit.sum (map unit_of xs)) (2 ^ 64 - 1)) done)
    ∙ c.loop-unit.invariant.0
