use Rattle.std.proofs.Common.{◌≡◌, ◌-◌, length, map, drop}
use Rattle.th_tree.specs.DeclView.{module_of as tree_of}
use Rattle.th_meaning.specs.View.{module_of}
use Rattle.th_program.specs.Programs.{with_texts}
use Rattle.th_limits.specs.Earliest.{earliest}
use Rattle.th_accept.specs.Counts.{modules_counts}
use Rattle.th_accept.proofs.limits.measure_modules.Given as goal

abbrev pub decreases-loop-k : goal.decreases-loop-k
decreases-loop-k l = length l.texts - l.k

abbrev pub invariant-loop-k : goal.invariant-loop-k
invariant-loop-k l =
    earliest l.first (modules_counts (with_texts (drop l.k l.texts) (map tree_of (drop l.k l.modules))) (map module_of (drop l.k l.checked)))
    ≡ earliest l.fn.first (modules_counts (with_texts l.texts (map tree_of l.modules)) (map module_of l.checked))
