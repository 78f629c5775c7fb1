use Rattle.std.proofs.Common.{◌≡◌, ◌-◌, ◌^◌, map, take}
use Rattle.std.specs.Prelude.{min, sum_by}
use Rattle.th_meaning.specs.View.{module_of}
use Rattle.th_meaning.specs.Counts.{module_nodes}
use Rattle.th_link_counts.proofs.nodes.program_nodes.Given as goal

abbrev pub invariant-loop-module : goal.invariant-loop-module
invariant-loop-module l = l.sum ≡ min (sum_by module_nodes (map module_of (take l.module-index l.modules))) (2 ^ 64 - 1)
