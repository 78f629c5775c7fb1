use Rattle.std.proofs.Common.{◌≡◌, ◌-◌, length, map, drop}
use Rattle.th_tree.specs.DeclView.{interface_of}
use Rattle.th_type.specs.Failures.{lowest}
use Rattle.th_scope.specs.View.{items_of}
use Rattle.th_program.specs.Programs.{with_texts}
use Rattle.th_bodies.specs.Exported.{interfaces_fail_by}
use Rattle.th_bodies.proofs.exported.judge_interfaces.Given as goal

abbrev pub decreases-loop-k : goal.decreases-loop-k
decreases-loop-k l = length l.interfaces - l.k

-- what is left to judge of the interfaces
abbrev pub invariant-loop-k : goal.invariant-loop-k
invariant-loop-k l =
    lowest l.least (interfaces_fail_by l.names l.hierarchy (items_of l.items) (with_texts (drop l.k l.texts) (map interface_of (drop l.k l.interfaces))))
    ≡ lowest l.fn.least (interfaces_fail_by l.names l.hierarchy (items_of l.items) (with_texts l.texts (map interface_of l.interfaces)))
