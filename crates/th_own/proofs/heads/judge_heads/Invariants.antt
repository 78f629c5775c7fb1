use Rattle.std.proofs.Common.{◌≡◌, map, drop}
use Rattle.th_tree.specs.DeclView.{module_item_of}
use Rattle.th_hier.specs.Texts.{items_fail}
use Rattle.th_module_rules.specs.Own.{head_item}
use Rattle.th_type.specs.Failures.{lowest}
use Rattle.th_own.proofs.heads.judge_heads.Given as goal

abbrev pub invariant-loop-item : goal.invariant-loop-item
invariant-loop-item l = lowest l.least (items_fail l.found l.home l.text (map head_item (map module_item_of (drop l.item-index l.items)))) ≡ lowest l.fn.least (items_fail l.found l.home l.text (map head_item (map module_item_of l.items)))
