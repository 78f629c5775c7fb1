use Rattle.std.proofs.Common.{◌≡◌, ◌++◌, map, drop}
use Rattle.th_tree.specs.DeclView.{interface_of}
use Rattle.th_checked.specs.Reaching.{tree_names}
use Rattle.th_checked.proofs.modules.name_list.Given as goal

abbrev pub invariant-loop-interface : goal.invariant-loop-interface
invariant-loop-interface l = l.done.items ++ tree_names (map interface_of (drop l.interface-index l.interfaces)) ≡ tree_names (map interface_of l.interfaces)
