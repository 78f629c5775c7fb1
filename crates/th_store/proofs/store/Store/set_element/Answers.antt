use Rattle.std.proofs.Common.{◌≡◌, ◌∙◌, List, Some, subst, OnOk, IfErr, arith, to_z-of_z, w64}
use Rattle.th_meaning.specs.World.{World, Array, on_array, within_bounds, item_at, with_item}
use Rattle.th_meaning.specs.Meaning.{Value}
use Rattle.th_store.specs.Found.{missed}
use Rattle.th_store.proofs.Alike.{element_sets, element_missed, element_kept, no_element_set}
use Rattle.th_store.proofs.store.Store.set_element.Goals as goal

pub returns-then-number-count-clause-miss : goal.returns-then-number-count-clause-miss
returns-then-number-count-clause-miss c =
    no_element_set (record { turns = c.self.inside.turns; room = c.self.inside.room; objects = c.self.inside.objects.items }) c.args.self.now c.args.number c.len-count.result c.args.index c.args.value (c.len-count.ensures ∙ c.self.inside.objects.ok.0) (omega arith) c.self.view_is

pub returns-clause-set : goal.returns-clause-set
returns-clause-set c =
    element_sets c.set_element.result (record { turns = c.self.inside.turns; room = c.self.inside.room; objects = c.self.inside.objects.items }) c.args.self.now c.args.number c.args.index c.args.value c.index_mut-object.result.now c.set_element.new.self
    (omega (arith, c.self.inside.objects.ok.0)) c.index_mut-object.ensures.value c.self.view_is
    (subst (λ i. OnOk c.set_element.result ((elements : List Value) × (c.index_mut-object.result.now ≡ Array elements) × (found_item : Value) × (item_at elements i ≡ Some found_item) × (c.set_element.new.self ≡ Array (with_item elements i c.args.value))))
    (to_z-of_z {w = w64} {z = c.args.index} c.ranges.index) c.set_element.ensures.set)

pub returns-clause-miss : goal.returns-clause-miss
returns-clause-miss c =
    element_missed c.set_element.result (record { turns = c.self.inside.turns; room = c.self.inside.room; objects = c.self.inside.objects.items }) c.args.self.now c.args.number c.args.index c.args.value c.index_mut-object.result.now
    (omega (arith, c.self.inside.objects.ok.0)) c.index_mut-object.ensures.value c.self.view_is
    (subst (λ i. IfErr c.set_element.result (λ miss. (w : World Value) → on_array (Some c.index_mut-object.result.now) w (λ elements. within_bounds (item_at elements i) w) ≡ missed miss w))
    (to_z-of_z {w = w64} {z = c.args.index} c.ranges.index) c.set_element.ensures.miss)

pub returns-clause-same : goal.returns-clause-same
returns-clause-same c =
    element_kept c.set_element.result (record { turns = c.self.inside.turns; room = c.self.inside.room; objects = c.self.inside.objects.items }) c.args.self.now c.args.number c.index_mut-object.result.now c.set_element.new.self
    (omega (arith, c.self.inside.objects.ok.0)) c.index_mut-object.ensures.value c.self.view_is c.set_element.ensures.same
