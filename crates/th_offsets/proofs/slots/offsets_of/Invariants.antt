use Rattle.std.proofs.Common.{◌≡◌, ℕ, drop}
use Rattle.std.specs.Prelude.{nat_eq}
use Rattle.std.specs.HashMap.{get}
use Rattle.th_offsets.specs.Maps.{or_else, offset_in}
use Rattle.th_offsets.proofs.slots.offsets_of.Given as goal

abbrev pub invariant-loop-spot : goal.invariant-loop-spot
invariant-loop-spot l = (q : ℕ) → or_else (get nat_eq l.map q) (offset_in l.rows (drop l.spot-index l.seen) q) ≡ offset_in l.rows l.seen q
