use Rattle.std.proofs.Common.{◌≡◌, map, drop}
use Rattle.th_tree.specs.DeclView.{module_item_of}
use Rattle.th_module_rules.specs.Own.{all_fields_fail}
use Rattle.th_type.specs.Failures.{lowest}
use Rattle.th_own.proofs.heads.judge_fields.Given as goal

abbrev pub invariant-loop-item : goal.invariant-loop-item
invariant-loop-item l = lowest l.least (all_fields_fail l.found l.home l.text (map module_item_of (drop l.item-index l.items))) ≡ lowest l.fn.least (all_fields_fail l.found l.home l.text (map module_item_of l.items))
