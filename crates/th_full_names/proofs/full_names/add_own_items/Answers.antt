use Rattle.std.proofs.Common.{ℕ, ◌∷◌, ◌++◌, ◌∙◌, [], map, refl, ap}
use Rattle.th_tree.specs.DeclView.{module_item_of}
use Rattle.th_hier.specs.Spots.{item_name}
use Rattle.th_module_rules.specs.Own.{head_item}
use Rattle.th_full_names.specs.Numbering.{joined, names_behind}
use Rattle.th_full_names.proofs.NameLaws.{adds_last, adds_next}
use Rattle.th_full_names.proofs.full_names.add_own_items.Goals as goal

pub loop-item-preserved : goal.loop-item-preserved
loop-item-preserved c =
    let n = c.args.program in
    let made = c.loop-item.further.items in
    adds_next c.args.names.now (λ t x. joined t n 47 (item_name (head_item (module_item_of x))).name ∷ []) (λ t xs. names_behind t n 47 (map head_item (map module_item_of xs))) c.args.items.now c.loop-item.item-index
    c.item-item.result _ made c.add_joined.new.further.items (λ t y ys. refl) c.loop-item-test.true c.item-item.is
    (λ t w. c.in_ok-add_joined.ensures t w ∙ ap (λ (m : ℕ). made ++ joined t n 47 m ∷ []) c.module_item_name-name.ensures) c.loop-item.invariant

pub returns : goal.returns
returns c =
    adds_last c.args.names.now (λ t xs. names_behind t c.args.program 47 (map head_item (map module_item_of xs))) c.args.items.now c.loop-item.item-index _ _ (λ t. refl) c.loop-item-test.false c.loop-item.invariant
