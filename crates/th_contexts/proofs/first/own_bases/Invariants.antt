use Rattle.std.proofs.Common.{◌≡◌, ◌++◌, [], map, drop}
use Rattle.th_tree.specs.DeclView.{module_item_of}
use Rattle.th_contexts.specs.BaseView.{base_of}
use Rattle.th_contexts.specs.First.{base_seen, of_first}
use Rattle.th_contexts.proofs.first.own_bases.Given as goal

abbrev pub invariant-loop-item : goal.invariant-loop-item
invariant-loop-item l =
    map base_of l.done.items ++ of_first (base_seen l.found l.home) l.seen (map module_item_of (drop l.item-index l.items))
    ≡ of_first (base_seen l.found l.home) [] (map module_item_of l.items)
