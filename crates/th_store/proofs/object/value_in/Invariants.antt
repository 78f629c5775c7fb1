use Rattle.std.proofs.Common.{◌≡◌, drop, find, option_map}
use Rattle.th_meaning.specs.World.{is_slot}
use Rattle.th_store.proofs.object.value_in.Given as goal

abbrev pub invariant-loop-slot : goal.invariant-loop-slot
invariant-loop-slot l = option_map (λ s. s.value) (find (is_slot l.class l.field) (drop l.slot-index l.slots)) ≡ option_map (λ s. s.value) (find (is_slot l.class l.field) l.slots)
