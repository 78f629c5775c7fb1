use Rattle.std.proofs.Common.{List, ◌∷◌, ◌++◌, ◌∙◌, [], map, ap}
use Rattle.th_tree.specs.declared.decl.ModuleItem.{ModuleItem}
use Rattle.th_tree.specs.DeclView.{module_item_of}
use Rattle.th_hier.specs.Numbering.{name_bytes}
use Rattle.th_hier.proofs.Failing.{on_ok}
use Rattle.th_module_rules.specs.Own.{head_item}
use Rattle.th_full_names.specs.Numbering.{names_behind}
use Rattle.th_full_names.proofs.NameLaws.{adds_both}
use Rattle.th_full_names.proofs.full_names.add_module.Goals as goal

pub returns : goal.returns
returns c =
    let n = c.args.program.now.name.name in
    let made = c.add_scope.new.further.items in
    on_ok c.add_own_items.result
    (λ h. adds_both c.args.names.now (λ t. (name_bytes t n ++ 47 ∷ []) ∷ []) (λ t. names_behind t n 47 (map head_item (map module_item_of c.args.program.now.items.items))) _ made c.add_own_items.new.further.items
    c.in_ok-add_scope.ensures (λ t w. h t w ∙ ap (λ (is : List ModuleItem). made ++ names_behind t n 47 (map head_item (map module_item_of is))) c.deref.ensures.value)) c.add_own_items.ensures
