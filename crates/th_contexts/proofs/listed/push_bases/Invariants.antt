use Rattle.std.proofs.Common.{◌≡◌, ◌++◌, map, drop}
use Rattle.th_module_rules.specs.Contexts.{item_bases}
use Rattle.th_scope.specs.ItemView.{item_of}
use Rattle.th_contexts.specs.BaseView.{base_of}
use Rattle.th_contexts.proofs.listed.push_bases.Given as goal

abbrev pub invariant-loop-item : goal.invariant-loop-item
invariant-loop-item l =
    map base_of l.done.items ++ item_bases (map item_of (drop l.item-index l.items)) ≡ map base_of l.fn.done.items ++ item_bases (map item_of l.items)
