use Rattle.std.proofs.Common.{◌≡◌, ◌∙◌, subst, Some, to_z-of_z, w64}
use Rattle.th_meaning.specs.World.{on_array, within_bounds, item_at}
use Rattle.th_store.specs.Found.{found}
use Rattle.th_store.proofs.Alike.{element_at}
use Rattle.th_store.proofs.store.Store.element.Goals as goal

pub returns-in-None : goal.returns-in-None
returns-in-None c = λ w h. element_at w c.args.self.now c.args.number c.args.index _ h c.in-None.ensures

pub returns-in-Some : goal.returns-in-Some
returns-in-Some c = λ w h.
    element_at w c.args.self.now c.args.number c.args.index (Some c.in-Some.object.now) h c.in-Some.ensures
    ∙ subst (λ i. on_array (Some c.in-Some.object.now) w (λ elements. within_bounds (item_at elements i) w) ≡ found c.element.result w) (to_z-of_z {w = w64} {z = c.args.index} c.ranges.index) (c.element.ensures w)
