use Rattle.std.proofs.Common.{map, drop}
use Rattle.th_tree.specs.DeclView.{module_item_of}
use Rattle.th_module_rules.specs.Own.{head_item}
use Rattle.th_full_names.specs.Numbering.{names_behind}
use Rattle.th_full_names.proofs.NameLaws.{Adding}
use Rattle.th_full_names.proofs.full_names.add_own_items.Given as goal

abbrev pub invariant-loop-item : goal.invariant-loop-item
invariant-loop-item l =
    Adding l.names (λ t. names_behind t l.program 47 (map head_item (map module_item_of (drop l.item-index l.items)))) (λ t. names_behind t l.program 47 (map head_item (map module_item_of l.items))) l.fn.further.items l.further.items
