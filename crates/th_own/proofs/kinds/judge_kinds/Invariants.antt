use Rattle.std.proofs.Common.{◌≡◌, map, drop}
use Rattle.th_tree.specs.DeclView.{module_item_of}
use Rattle.th_module_rules.specs.Own.{head_item, kinds_fail}
use Rattle.th_type.specs.Failures.{lowest}
use Rattle.th_own.proofs.kinds.judge_kinds.Given as goal

abbrev pub invariant-loop-item : goal.invariant-loop-item
invariant-loop-item l = lowest l.least (kinds_fail l.index l.implements l.text (map head_item (map module_item_of (drop l.item-index l.items)))) ≡ lowest l.fn.least (kinds_fail l.index l.implements l.text (map head_item (map module_item_of l.items)))
