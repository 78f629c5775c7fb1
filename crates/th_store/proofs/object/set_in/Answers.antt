use Rattle.std.proofs.Common.{◌∙◌, ap, arith}
use Rattle.std.specs.List.{position_or_len}
use Rattle.th_meaning.specs.World.{is_slot}
use Rattle.th_store.proofs.Slots.{set_at_by}
use Rattle.th_store.proofs.object.set_in.Goals as goal

pub returns-then-at-len-clause-set : goal.returns-then-at-len-clause-set
returns-then-at-len-clause-set c =
    set_at_by c.args.slots.now.items (record { class = c.args.class.now; field = c.args.field; value = c.args.value }) c.new-slot.result c.place_in-at.result
    (c.place_in-at.ensures ∙ ap (position_or_len (is_slot c.args.class.now c.args.field)) c.deref.ensures.value) (omega (arith, c.args.slots.now.ok.0)) c.new-slot.ensures
