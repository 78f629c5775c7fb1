use Rattle.std.proofs.Common.{◌≡◌, ◌+◌, ◌-◌, ◌^◌, ◌≤◌, map, drop}
use Rattle.std.specs.Prelude.{fold, min, sum_by}
use Rattle.th_meaning.specs.View.{class_of}
use Rattle.th_meaning.specs.Counts.{class_nodes}
use Rattle.th_limits.proofs.units.classes_nodes.Given as goal

abbrev pub invariant-loop-class : goal.invariant-loop-class
invariant-loop-class l =
    (min (fold (λ a x. a + class_nodes x) l.sum (map class_of (drop l.class-index l.classes))) (2 ^ 64 - 1) ≡ min (sum_by class_nodes (map class_of l.classes)) (2 ^ 64 - 1)) × (l.sum ≤ 2 ^ 64 - 1)
