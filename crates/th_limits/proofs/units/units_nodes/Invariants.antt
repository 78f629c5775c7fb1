use Rattle.std.proofs.Common.{◌≡◌, ◌+◌, ◌-◌, ◌^◌, ◌≤◌, map, drop}
use Rattle.std.specs.Prelude.{fold, min, sum_by}
use Rattle.th_meaning.specs.View.{unit_of}
use Rattle.th_meaning.specs.Counts.{unit_nodes}
use Rattle.th_limits.proofs.units.units_nodes.Given as goal

abbrev pub invariant-loop-unit : goal.invariant-loop-unit
invariant-loop-unit l =
    (min (fold (λ a x. a + unit_nodes x) l.sum (map unit_of (drop l.unit-index l.units))) (2 ^ 64 - 1) ≡ min (sum_by unit_nodes (map unit_of l.units)) (2 ^ 64 - 1)) × (l.sum ≤ 2 ^ 64 - 1)
