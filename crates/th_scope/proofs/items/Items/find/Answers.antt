use Rattle.std.proofs.Common.{◌∙◌, map, List, Some, None, slice_get, ap}
use Rattle.th_scope.specs.View.{item_of}
use Rattle.th_scope.specs.declared.item.Item.{Item}
use Rattle.th_scope.proofs.Places.{led, got}
use Rattle.th_scope.proofs.items.Items.find.Goals as goal

pub returns-in-Some : goal.returns-in-Some
returns-in-Some c = got item_of c.deref.result.now c.in-Some.place.now c.get-in-Some.result c.get-in-Some.ensures.lookup.3
    ∙ ap (λ (xs : List Item). slice_get (map item_of xs) c.in-Some.place.now) c.deref.ensures.value
    ∙ led (record { from = c.args.from; name = c.args.name }) (map item_of c.args.self.now.list.items) c.args.self.now.named.entries (Some c.in-Some.place.now) c.args.self.now.by_name c.in-Some.ensures.value

pub returns-in-None : goal.returns-in-None
returns-in-None c = led (record { from = c.args.from; name = c.args.name }) (map item_of c.args.self.now.list.items) c.args.self.now.named.entries None c.args.self.now.by_name c.in-None.ensures.value
