use Rattle.std.proofs.Common.{◌≡◌, ◌-◌, ◌^◌, map, take}
use Rattle.std.specs.Prelude.{min, sum_by}
use Rattle.th_meaning.specs.View.{unit_of}
use Rattle.th_meaning.specs.Counts.{unit_nodes}
use Rattle.th_link_counts.proofs.nodes.units_nodes.Given as goal

abbrev pub invariant-loop-unit : goal.invariant-loop-unit
invariant-loop-unit l = l.sum ≡ min (sum_by unit_nodes (map unit_of (take l.unit-index l.units))) (2 ^ 64 - 1)
