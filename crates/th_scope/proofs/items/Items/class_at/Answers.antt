use Rattle.std.proofs.Common.{◌∙◌, map, List, Some, None, slice_get, ap}
use Rattle.th_scope.specs.View.{item_of}
use Rattle.th_scope.specs.Places.{class_in}
use Rattle.th_scope.specs.declared.item.Item.{Item}
use Rattle.th_scope.proofs.Places.{led_class, got}
use Rattle.th_scope.proofs.items.Items.class_at.Goals as goal

pub returns-in-Some : goal.returns-in-Some
returns-in-Some c = c.class_in.ensures
    ∙ ap class_in (got item_of c.deref.result.now c.in-Some.place.now c.get-in-Some.result c.get-in-Some.ensures.lookup.3
    ∙ ap (λ (xs : List Item). slice_get (map item_of xs) c.in-Some.place.now) c.deref.ensures.value)
    ∙ led_class c.args.full (map item_of c.args.self.now.list.items) c.args.self.now.classes.entries (Some c.in-Some.place.now) c.args.self.now.by_class c.in-Some.ensures.value

pub returns-in-None : goal.returns-in-None
returns-in-None c = led_class c.args.full (map item_of c.args.self.now.list.items) c.args.self.now.classes.entries None c.args.self.now.by_class c.in-None.ensures.value
