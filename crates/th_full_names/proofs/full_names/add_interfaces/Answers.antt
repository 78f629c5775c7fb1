use Rattle.std.proofs.Common.{List, ◌++◌, ◌∙◌, map, refl, ap}
use Rattle.th_tree.specs.declared.decl.InterfaceItem.{InterfaceItem}
use Rattle.th_tree.specs.DeclView.{interface_item_of, interface_of}
use Rattle.th_full_names.specs.Numbering.{names_behind, names_in_interface, names_in_interfaces}
use Rattle.th_full_names.proofs.NameLaws.{adds_last, adds_next}
use Rattle.th_full_names.proofs.full_names.add_interfaces.Goals as goal

pub loop-interface-preserved : goal.loop-interface-preserved
loop-interface-preserved c =
    let x = c.interface-item.result in
    let made = c.loop-interface.further.items in
    adds_next c.args.names.now (λ t i. names_in_interface t (interface_of i)) (λ t xs. names_in_interfaces t (map interface_of xs)) c.args.interfaces.now c.loop-interface.interface-index
    x _ made c.add_items.new.further.items (λ t y ys. refl) c.loop-interface-test.true c.interface-item.is
    (λ t w. c.in_ok-add_items.ensures t w ∙ ap (λ (is : List InterfaceItem). made ++ names_behind t x.name.name 36 (map interface_item_of is)) c.deref.ensures.value) c.loop-interface.invariant

pub returns : goal.returns
returns c =
    adds_last c.args.names.now (λ t xs. names_in_interfaces t (map interface_of xs)) c.args.interfaces.now c.loop-interface.interface-index _ _ (λ t. refl) c.loop-interface-test.false c.loop-interface.invariant
