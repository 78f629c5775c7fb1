use Rattle.std.proofs.Common.{◌≡◌, ◌++◌, map, drop}
use Rattle.th_tree.specs.DeclView.{interface_of}
use Rattle.th_hier.specs.Spots.{interface_spots}
use Rattle.th_hier.proofs.texts.interface_spots.Given as goal

abbrev pub invariant-loop-k : goal.invariant-loop-k
invariant-loop-k l = l.spots.items ++ interface_spots l.k (map interface_of (drop l.k l.interfaces)) ≡ interface_spots 0 (map interface_of l.interfaces)
