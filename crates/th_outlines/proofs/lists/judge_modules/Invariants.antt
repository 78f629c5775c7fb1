use Rattle.std.proofs.Common.{◌≡◌, ◌-◌, length, map, drop}
use Rattle.th_tree.specs.DeclView.{module_of}
use Rattle.th_type.specs.Failures.{lowest}
use Rattle.th_module_rules.specs.Stages.{modules_fail}
use Rattle.th_program.specs.Programs.{with_texts}
use Rattle.th_outlines.specs.Programs.{AllNamed}
use Rattle.th_outlines.proofs.lists.judge_modules.Given as goal

abbrev pub decreases-loop-k : goal.decreases-loop-k
decreases-loop-k l = length l.modules - l.k

abbrev pub invariant-loop-k : goal.invariant-loop-k
invariant-loop-k l =
    (lowest l.least (modules_fail l.fn.names l.index (with_texts (drop l.k l.texts) (map module_of (drop l.k l.modules)))) ≡ lowest l.fn.least (modules_fail l.fn.names l.index (with_texts l.texts (map module_of l.modules))))
    × AllNamed l.fn.names (with_texts (drop l.k l.texts) (map module_of (drop l.k l.modules)))
    × (l.names ≡ l.fn.names)
