use Rattle.std.proofs.Common.{◌∙◌, map, List, Some, None, slice_get, ap}
use Rattle.th_contexts.specs.BaseView.{base_of}
use Rattle.th_contexts.specs.declared.base_row.Base.{Base}
use Rattle.th_scope.proofs.Places.{got}
use Rattle.th_contexts.proofs.Placing.{led}
use Rattle.th_contexts.proofs.bases.Bases.at.Goals as goal

pub returns-in-Some : goal.returns-in-Some
returns-in-Some c = got base_of c.deref.result.now c.in-Some.place.now c.get-in-Some.result c.get-in-Some.ensures.lookup.3
    ∙ ap (λ (xs : List Base). slice_get (map base_of xs) c.in-Some.place.now) c.deref.ensures.value
    ∙ led c.args.full (map base_of c.args.self.now.list.items) c.args.self.now.places.entries (Some c.in-Some.place.now) c.args.self.now.placed c.in-Some.ensures.value

pub returns-in-None : goal.returns-in-None
returns-in-None c = led c.args.full (map base_of c.args.self.now.list.items) c.args.self.now.places.entries None c.args.self.now.placed c.in-None.ensures.value
