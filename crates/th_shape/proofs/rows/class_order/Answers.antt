use Rattle.std.proofs.Common.{◌∙◌, ap, sym, subst, length, map}
use Rattle.std.specs.HashMap.{get}
use Rattle.std.specs.Prelude.{nat_eq}
use Rattle.th_views.specs.Lookups.{index_of}
use Rattle.th_views.specs.Shapes.{names_of, shapes_of, shape_of}
use Rattle.th_shape.specs.Built.{ups_in}
use Rattle.th_shape.specs.Order.{Inner, Ending, IsOrder}
use Rattle.th_shape.proofs.Lining.{ups_end, ups_inner, same_ups, many_map}
use Rattle.th_shape.proofs.Naming.{ups_are, few_names, few_ups}
use Rattle.th_shape.proofs.rows.class_order.Goals as goal

pub first_places-requires : goal.first_places-requires
first_places-requires c = few_names c.args.classes.now c.deref.result.now (c.deref.ensures.value ∙ c.in_ok-names.ensures) c.requires.few

pub order_of-requires-clause-few : goal.order_of-requires-clause-few
order_of-requires-clause-few c = few_ups c.args.classes.now _ c.deref-2.result.now (c.deref-2.ensures.value ∙ c.in_ok-ups.ensures) c.requires.few

pub order_of-requires-clause-inner : goal.order_of-requires-clause-inner
order_of-requires-clause-inner c = subst Inner (sym (c.deref-2.ensures.value ∙ ups_are c.args.classes.now (get nat_eq c.in_ok-places.places) (get nat_eq c.in_ok-places.places) c.in_ok-names.names.items c.deref.result.now c.in_ok-ups.ups.items c.in_ok-names.ensures c.deref.ensures.value c.in_ok-places.ensures c.in_ok-ups.ensures)) (ups_inner (shapes_of c.args.classes.now))

pub order_of-requires-clause-ending : goal.order_of-requires-clause-ending
order_of-requires-clause-ending c = subst Ending (sym (c.deref-2.ensures.value ∙ ups_are c.args.classes.now (get nat_eq c.in_ok-places.places) (get nat_eq c.in_ok-places.places) c.in_ok-names.names.items c.deref.result.now c.in_ok-ups.ups.items c.in_ok-names.ensures c.deref.ensures.value c.in_ok-places.ensures c.in_ok-ups.ensures)) (ups_end (shapes_of c.args.classes.now) c.requires.names c.requires.lines)

pub returns : goal.returns
returns c = subst (λ u. IsOrder u c.in_ok-order.order.items) (c.deref-2.ensures.value ∙ ups_are c.args.classes.now (get nat_eq c.in_ok-places.places) (get nat_eq c.in_ok-places.places) c.in_ok-names.names.items c.deref.result.now c.in_ok-ups.ups.items c.in_ok-names.ensures c.deref.ensures.value c.in_ok-places.ensures c.in_ok-ups.ensures) c.in_ok-order.ensures
