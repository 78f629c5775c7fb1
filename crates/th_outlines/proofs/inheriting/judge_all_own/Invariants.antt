use Rattle.std.proofs.Common.{◌≡◌, ◌-◌, Option, length, map, drop}
use Rattle.th_tree.specs.DeclView.{interface_of, module_of}
use Rattle.th_type.specs.declared.place.Failure.{Failure}
use Rattle.th_module_rules.specs.Inheriting.{interfaces_rows}
use Rattle.th_program.specs.Programs.{with_texts}
use Rattle.th_outlines.specs.Programs.{AllNamed}
use Rattle.th_outlines.specs.Stages.{KeepsLeast, OwnFails}
use Rattle.th_outlines.proofs.inheriting.judge_all_own.Given as goal

abbrev pub decreases-loop-k : goal.decreases-loop-k
decreases-loop-k l = length l.modules - l.k

abbrev pub invariant-loop-k : goal.invariant-loop-k
invariant-loop-k l =
    ((new : Option Failure)
    → KeepsLeast l.least (OwnFails l.fn.names l.fulls l.index (interfaces_rows l.index 0 (map interface_of l.interfaces)) (with_texts (drop l.k l.texts) (map module_of (drop l.k l.modules)))) new
    → KeepsLeast l.fn.least (OwnFails l.fn.names l.fulls l.index (interfaces_rows l.index 0 (map interface_of l.interfaces)) (with_texts l.texts (map module_of l.modules))) new)
    × AllNamed l.fn.names (with_texts (drop l.k l.texts) (map module_of (drop l.k l.modules)))
    × (l.names ≡ l.fn.names)
