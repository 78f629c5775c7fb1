use Rattle.std.proofs.Common.{◌≡◌, map, drop}
use Rattle.th_tree.specs.DeclView.{interface_item_of}
use Rattle.th_outlines.specs.Fulls.{with_items}
use Rattle.th_outlines.proofs.fulls.add_items.Given as goal

abbrev pub invariant-loop-item : goal.invariant-loop-item
invariant-loop-item l = with_items l.index l.fulls l.interface (map interface_item_of (drop l.item-index l.items)) ≡ with_items l.index l.fn.fulls l.interface (map interface_item_of l.items)
