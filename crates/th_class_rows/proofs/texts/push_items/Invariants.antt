use Rattle.std.proofs.Common.{◌≡◌, ◌++◌, map, drop}
use Rattle.th_tree.specs.DeclView.{interface_item_of}
use Rattle.th_module_rules.specs.Inheriting.{items_rows}
use Rattle.th_inherits.specs.Rows.{rows_of}
use Rattle.th_class_rows.proofs.texts.push_items.Given as goal

abbrev pub invariant-loop-item : goal.invariant-loop-item
invariant-loop-item l = rows_of l.rows.items ++ items_rows l.found l.home l.text (map interface_item_of (drop l.item-index l.items)) ≡ rows_of l.fn.rows.items ++ items_rows l.found l.home l.text (map interface_item_of l.items)
