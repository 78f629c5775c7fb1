use Rattle.std.proofs.Common.{◌≡◌, ◌+◌, ◌≤◌, length, map, drop}
use Rattle.th_tree.specs.DeclView.{interface_item_of}
use Rattle.th_hier.specs.Numbering.{add_items, full_numbers, numbering, Grown}
use Rattle.th_hier.proofs.numbering.add_items.Given as goal

abbrev pub invariant-loop-item : goal.invariant-loop-item
invariant-loop-item l = record {
  added : add_items (numbering l.names l.index) l.interface (map interface_item_of (drop l.item-index l.items)) ≡ add_items (numbering l.fn.names l.fn.index) l.interface (map interface_item_of l.items);
  fulls : l.fulls ≡ full_numbers l.index;
  grown : Grown l.fn.names l.names;
  small : length l.names ≤ length l.fn.names + l.item-index;
}
