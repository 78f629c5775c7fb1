use Rattle.std.proofs.Common.{◌≡◌, map, drop}
use Rattle.th_tree.specs.DeclView.{interface_item_of}
use Rattle.th_type.specs.Failures.{lowest}
use Rattle.th_scope.specs.View.{items_of}
use Rattle.th_bodies.specs.Exported.{items_fail_by}
use Rattle.th_bodies.proofs.exported.judge_items.Given as goal

-- what is left to judge of the items
abbrev pub invariant-loop-item : goal.invariant-loop-item
invariant-loop-item l =
    lowest l.least (items_fail_by l.names l.hierarchy (items_of l.items) l.text l.home (map interface_item_of (drop l.item-index l.list)))
    ≡ lowest l.fn.least (items_fail_by l.names l.hierarchy (items_of l.items) l.text l.home (map interface_item_of l.list))
