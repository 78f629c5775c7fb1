use Rattle.std.proofs.Common.{◌≡◌, map, drop}
use Rattle.th_tree.specs.DeclView.{interface_item_of}
use Rattle.th_own.specs.Mains.{interface_items_fail_by}
use Rattle.th_type.specs.Failures.{lowest}
use Rattle.th_own.proofs.clauses.judge_interface_items_by.Given as goal

abbrev pub invariant-loop-item : goal.invariant-loop-item
invariant-loop-item l = lowest l.least (interface_items_fail_by l.main l.text (map interface_item_of (drop l.item-index l.items))) ≡ lowest l.fn.least (interface_items_fail_by l.main l.text (map interface_item_of l.items))
