use Rattle.std.proofs.Common.{◌≡◌, ◌+◌, ◌-◌, ◌^◌, length, map, min, drop}
use Rattle.th_tree.specs.DeclView.{interface_of}
use Rattle.th_hier.specs.Numbering.{item_count}
use Rattle.th_hier.proofs.hierarchy.has_room.Given as goal

abbrev pub invariant-loop-interface : goal.invariant-loop-interface
invariant-loop-interface l =
    min (l.count + item_count (map interface_of (drop l.interface-index l.interfaces))) (2 ^ 64 - 1) ≡ min (length l.fn.names + item_count (map interface_of l.interfaces)) (2 ^ 64 - 1)
