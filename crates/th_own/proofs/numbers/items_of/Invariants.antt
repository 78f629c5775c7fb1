use Rattle.std.proofs.Common.{◌≡◌, [], map, drop}
use Rattle.th_tree.specs.DeclView.{module_item_of}
use Rattle.th_module_rules.specs.Own.{head_item}
use Rattle.th_own.specs.Named.{AllThere}
use Rattle.th_own.specs.Owned.{owned}
use Rattle.th_own.proofs.numbers.items_of.Given as goal

abbrev pub invariant-loop-item : goal.invariant-loop-item
invariant-loop-item l =
    (owned l.fn.names l.index l.origin.scope l.origin.program l.origin.implements l.own (map head_item (map module_item_of (drop l.item-index l.items))) ≡ owned l.fn.names l.index l.origin.scope l.origin.program l.origin.implements [] (map head_item (map module_item_of l.items)))
    × AllThere l.fn.names l.origin.program (map head_item (map module_item_of (drop l.item-index l.items)))
    × (l.names ≡ l.fn.names)
