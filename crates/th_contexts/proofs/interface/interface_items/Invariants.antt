use Rattle.std.proofs.Common.{◌≡◌, ◌++◌, [], map, drop}
use Rattle.th_tree.specs.DeclView.{interface_of}
use Rattle.th_module_rules.specs.Contexts.{interface_items}
use Rattle.th_scope.specs.ItemView.{item_of}
use Rattle.th_contexts.proofs.interface.interface_items.Given as goal

abbrev pub invariant-loop-interface : goal.invariant-loop-interface
invariant-loop-interface l =
    map item_of l.done.items ++ interface_items l.index l.seen (map interface_of (drop l.interface-index l.interfaces)) ≡ interface_items l.index [] (map interface_of l.interfaces)
