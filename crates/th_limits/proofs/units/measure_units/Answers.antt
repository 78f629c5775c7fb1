use Rattle.std.proofs.Common.{◌≡◌, ◌∙◌, List, [], map, drop, sym, ap}
use Rattle.std.proofs.Math.ListN.{drop_of_length-le}
use Rattle.th_meaning.specs.declared.declared.CoreUnit.{CoreUnit}
use Rattle.th_meaning.specs.View.{unit_of}
use Rattle.th_module_rules.specs.Limits.{units_counts}
use Rattle.th_limits.specs.Earliest.{earliest}
use Rattle.th_limits.proofs.Counting.{no_units}
use Rattle.th_limits.proofs.units.measure_units.Goals as goal

pub returns-else-k-units : goal.returns-else-k-units
returns-else-k-units c =
    let done : drop c.loop-k.k c.args.units.now ≡ [] = drop_of_length-le c.args.units.now c.if-k-units.false in
    sym (ap (λ (us : List CoreUnit). earliest c.loop-k.first (units_counts (drop c.loop-k.k c.args.places.now) (map unit_of us))) done ∙ ap (earliest c.loop-k.first) (no_units (drop c.loop-k.k c.args.places.now)))
    ∙ c.loop-k.invariant
