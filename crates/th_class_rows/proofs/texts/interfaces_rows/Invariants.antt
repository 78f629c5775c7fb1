use Rattle.std.proofs.Common.{◌≡◌, ◌++◌, map, drop}
use Rattle.th_tree.specs.DeclView.{interface_of}
use Rattle.th_module_rules.specs.Inheriting.{interfaces_rows}
use Rattle.th_inherits.specs.Rows.{rows_of}
use Rattle.th_class_rows.proofs.texts.interfaces_rows.Given as goal

abbrev pub invariant-loop-interface : goal.invariant-loop-interface
invariant-loop-interface l = rows_of l.rows.items ++ interfaces_rows l.index l.text (map interface_of (drop l.interface-index l.interfaces)) ≡ interfaces_rows l.index 0 (map interface_of l.interfaces)
