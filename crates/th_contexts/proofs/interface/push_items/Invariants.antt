use Rattle.std.proofs.Common.{◌≡◌, ◌++◌, [], map, drop}
use Rattle.th_tree.specs.DeclView.{interface_item_of}
use Rattle.th_hier.specs.Texts.{within}
use Rattle.th_module_rules.specs.Contexts.{items_of_interface}
use Rattle.th_scope.specs.ItemView.{item_of}
use Rattle.th_contexts.proofs.interface.push_items.Given as goal

abbrev pub invariant-loop-item : goal.invariant-loop-item
invariant-loop-item l =
    map item_of l.done.items ++ items_of_interface l.index (within l.home []) l.interface l.seen (map interface_item_of (drop l.item-index l.items))
    ≡ map item_of l.fn.done.items ++ items_of_interface l.index (within l.home []) l.interface [] (map interface_item_of l.items)
