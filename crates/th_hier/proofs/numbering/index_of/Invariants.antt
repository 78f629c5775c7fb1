use Rattle.std.proofs.Common.{◌≡◌, ◌+◌, ◌≤◌, length, map, drop}
use Rattle.th_tree.specs.DeclView.{interface_of}
use Rattle.th_hier.specs.Numbering.{add_interfaces, full_numbers, item_count, numbered_items, numbering, Grown}
use Rattle.th_hier.proofs.numbering.index_of.Given as goal

abbrev pub invariant-loop-interface : goal.invariant-loop-interface
invariant-loop-interface l = record {
  added : add_interfaces l.seen (numbering l.names l.index) (map interface_of (drop l.interface-index l.interfaces)) ≡ numbered_items l.fn.names (map interface_of l.interfaces);
  fulls : l.fulls ≡ full_numbers l.index;
  grown : Grown l.fn.names l.names;
  small : length l.names + item_count (map interface_of (drop l.interface-index l.interfaces)) ≤ length l.fn.names + item_count (map interface_of l.interfaces);
}
