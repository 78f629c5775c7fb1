use Rattle.std.proofs.Common.{◌≡◌, [], map, drop}
use Rattle.th_tree.specs.DeclView.{interface_of}
use Rattle.th_outlines.specs.Fulls.{with_interfaces}
use Rattle.th_outlines.proofs.fulls.found_fulls.Given as goal

abbrev pub invariant-loop-interface : goal.invariant-loop-interface
invariant-loop-interface l = with_interfaces l.index l.fulls (map interface_of (drop l.interface-index l.interfaces)) ≡ with_interfaces l.index [] (map interface_of l.interfaces)
