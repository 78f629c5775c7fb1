use Rattle.std.proofs.Common.{◌≡◌, ◌++◌, [], map, drop}
use Rattle.th_tree.specs.DeclView.{module_item_of}
use Rattle.th_scope.specs.ItemView.{item_of}
use Rattle.th_contexts.specs.Bases.{bases_of}
use Rattle.th_contexts.specs.First.{item_seen, of_first}
use Rattle.th_contexts.proofs.first.own_items.Given as goal

abbrev pub invariant-loop-item : goal.invariant-loop-item
invariant-loop-item l =
    map item_of l.done.items ++ of_first (item_seen l.hierarchy.types (bases_of l.bases) l.found l.home) l.seen (map module_item_of (drop l.item-index l.items))
    ≡ of_first (item_seen l.hierarchy.types (bases_of l.bases) l.found l.home) [] (map module_item_of l.items)
