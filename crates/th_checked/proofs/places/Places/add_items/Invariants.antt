use Rattle.std.proofs.Common.{◌≡◌, map, drop}
use Rattle.th_tree.specs.DeclView.{interface_item_of}
use Rattle.th_checked.specs.Noting.{with_heads}
use Rattle.th_checked.proofs.places.Places.add_items.Given as goal

abbrev pub invariant-loop-item : goal.invariant-loop-item
invariant-loop-item l =
    with_heads l.text l.interface l.self (map interface_item_of (drop l.item-index l.items)) ≡ with_heads l.text l.interface l.fn.self (map interface_item_of l.items)
