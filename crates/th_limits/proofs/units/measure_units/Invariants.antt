use Rattle.std.proofs.Common.{◌≡◌, ◌-◌, length, map, drop}
use Rattle.th_meaning.specs.View.{unit_of}
use Rattle.th_module_rules.specs.Limits.{units_counts}
use Rattle.th_limits.specs.Earliest.{earliest}
use Rattle.th_limits.proofs.units.measure_units.Given as goal

abbrev pub decreases-loop-k : goal.decreases-loop-k
decreases-loop-k l = length l.places - l.k

abbrev pub invariant-loop-k : goal.invariant-loop-k
invariant-loop-k l = earliest l.first (units_counts (drop l.k l.places) (map unit_of (drop l.k l.units))) ≡ earliest l.fn.first (units_counts l.places (map unit_of l.units))
