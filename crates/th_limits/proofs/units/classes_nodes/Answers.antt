use Rattle.std.proofs.Common.{◌≡◌, ◌+◌, ◌-◌, ◌^◌, ◌∙◌, List, [], map, drop, sym, ap}
use Rattle.std.specs.Prelude.{fold, min}
use Rattle.std.proofs.Math.ListN.{drop_of_length-le}
use Rattle.th_meaning.specs.declared.declared.CoreClass.{CoreClass}
use Rattle.th_meaning.specs.View.{class_of}
use Rattle.th_meaning.specs.Counts.{class_nodes}
use Rattle.th_limits.proofs.Counting.{next_sum, sum_there}
use Rattle.th_limits.proofs.units.classes_nodes.Goals as goal

pub loop-class-preserved : goal.loop-class-preserved
loop-class-preserved c =
    next_sum class_of class_nodes c.args.classes.now c.loop-class.class-index c.class-item.result c.loop-class.sum c.class_nodes.result c.saturating_add-sum.result _
    c.loop-class-test.true c.class-item.is c.class_nodes.ensures c.saturating_add-sum.ensures c.loop-class.invariant.0

pub returns : goal.returns
returns c =
    let done : drop c.loop-class.class-index c.args.classes.now ≡ [] = drop_of_length-le c.args.classes.now c.loop-class-test.false in
    sum_there c.loop-class.sum c.loop-class.invariant.1
    ∙ sym (ap (λ (xs : List CoreClass). min (fold (λ a x. a + class_nodes x) c.loop-class.sum (map class_of xs)) (2 ^ 64 - 1)) done)
    ∙ c.loop-class.invariant.0
