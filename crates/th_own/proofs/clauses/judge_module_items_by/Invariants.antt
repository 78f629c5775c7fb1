use Rattle.std.proofs.Common.{◌≡◌, map, drop}
use Rattle.th_tree.specs.DeclView.{module_item_of}
use Rattle.th_module_rules.specs.Own.{head_item}
use Rattle.th_own.specs.Mains.{module_items_fail_by}
use Rattle.th_type.specs.Failures.{lowest}
use Rattle.th_own.proofs.clauses.judge_module_items_by.Given as goal

abbrev pub invariant-loop-item : goal.invariant-loop-item
invariant-loop-item l = lowest l.least (module_items_fail_by l.main l.text (map head_item (map module_item_of (drop l.item-index l.items)))) ≡ lowest l.fn.least (module_items_fail_by l.main l.text (map head_item (map module_item_of l.items)))
