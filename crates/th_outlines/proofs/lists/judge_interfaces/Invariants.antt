use Rattle.std.proofs.Common.{◌≡◌, ◌-◌, ℕ, List, length, map, drop}
use Rattle.th_tree.specs.DeclView.{interface_of}
use Rattle.th_type.specs.Failures.{lowest}
use Rattle.th_module_rules.specs.Clauses.{main_number}
use Rattle.th_module_rules.specs.Stages.{interfaces_fail}
use Rattle.th_program.specs.Programs.{with_texts}
use Rattle.th_outlines.proofs.lists.judge_interfaces.Given as goal

abbrev pub decreases-loop-k : goal.decreases-loop-k
decreases-loop-k l = length l.interfaces - l.k

abbrev pub invariant-loop-k : goal.invariant-loop-k
invariant-loop-k l =
    (table : List (List ℕ)) → l.main ≡ main_number table
    → lowest l.least (interfaces_fail table (with_texts (drop l.k l.texts) (map interface_of (drop l.k l.interfaces)))) ≡ lowest l.fn.least (interfaces_fail table (with_texts l.texts (map interface_of l.interfaces)))
