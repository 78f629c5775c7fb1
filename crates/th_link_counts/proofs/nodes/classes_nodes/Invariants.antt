use Rattle.std.proofs.Common.{◌≡◌, ◌-◌, ◌^◌, map, take}
use Rattle.std.specs.Prelude.{min, sum_by}
use Rattle.th_meaning.specs.View.{class_of}
use Rattle.th_meaning.specs.Counts.{class_nodes}
use Rattle.th_link_counts.proofs.nodes.classes_nodes.Given as goal

abbrev pub invariant-loop-class : goal.invariant-loop-class
invariant-loop-class l = l.sum ≡ min (sum_by class_nodes (map class_of (take l.class-index l.classes))) (2 ^ 64 - 1)
