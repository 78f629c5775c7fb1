use Rattle.std.proofs.Common.{◌≡◌, map, drop}
use Rattle.th_tree.specs.DeclView.{interface_item_of}
use Rattle.th_module_rules.specs.Limits.{items_counts}
use Rattle.th_limits.specs.Earliest.{earliest}
use Rattle.th_limits.proofs.heads.measure_items.Given as goal

abbrev pub invariant-loop-item : goal.invariant-loop-item
invariant-loop-item l = earliest l.first (items_counts l.text (map interface_item_of (drop l.item-index l.items))) ≡ earliest l.fn.first (items_counts l.text (map interface_item_of l.items))
