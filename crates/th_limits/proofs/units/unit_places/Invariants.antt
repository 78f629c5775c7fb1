use Rattle.std.proofs.Common.{◌≡◌, ◌++◌, map, drop}
use Rattle.th_tree.specs.DeclView.{module_item_of}
use Rattle.th_module_rules.specs.Limits.{unit_places}
use Rattle.th_limits.proofs.units.unit_places.Given as goal

abbrev pub invariant-loop-item : goal.invariant-loop-item
invariant-loop-item l = l.places.items ++ unit_places l.text (map module_item_of (drop l.item-index l.items)) ≡ unit_places l.text (map module_item_of l.items)
