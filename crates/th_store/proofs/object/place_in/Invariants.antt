use Rattle.std.proofs.Common.{◌≡◌, ◌+◌, drop}
use Rattle.std.specs.List.{position_or_len}
use Rattle.th_meaning.specs.World.{is_slot}
use Rattle.th_store.proofs.object.place_in.Given as goal

abbrev pub invariant-loop-slot : goal.invariant-loop-slot
invariant-loop-slot l = (l.at ≡ l.slot-index) × (l.slot-index + position_or_len (is_slot l.class l.field) (drop l.slot-index l.slots) ≡ position_or_len (is_slot l.class l.field) l.slots)
