use Rattle.std.proofs.Common.{◌≡◌, ◌-◌, length, map, drop}
use Rattle.th_tree.specs.DeclView.{interface_of}
use Rattle.th_program.specs.Programs.{with_texts}
use Rattle.th_limits.specs.Earliest.{earliest}
use Rattle.th_accept.specs.Counts.{interfaces_counts}
use Rattle.th_accept.proofs.limits.measure_interfaces.Given as goal

abbrev pub decreases-loop-k : goal.decreases-loop-k
decreases-loop-k l = length l.texts - l.k

abbrev pub invariant-loop-k : goal.invariant-loop-k
invariant-loop-k l =
    earliest l.first (interfaces_counts (with_texts (drop l.k l.texts) (map interface_of (drop l.k l.interfaces))))
    ≡ earliest l.fn.first (interfaces_counts (with_texts l.texts (map interface_of l.interfaces)))
