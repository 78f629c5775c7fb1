use Rattle.std.proofs.Common.{◌≡◌, ℤ, drop}
use Rattle.std.specs.Ordering.{int_cmp}
use Rattle.std.specs.BTreeMap.{get}
use Rattle.th_views.specs.Contents.{first_at, seen_slots}
use Rattle.th_offsets.specs.Maps.{or_else}
use Rattle.th_layout.proofs.tables.add_seen_slots.Given as goal

abbrev pub invariant-loop-spot : goal.invariant-loop-spot
invariant-loop-spot l = (o : ℤ) → or_else (get int_cmp l.map o) (first_at (seen_slots (record { types = l.types; classes = l.classes }) l.class l.word (drop l.spot-index l.seen)) o)
    ≡ or_else (get int_cmp l.fn.map o) (first_at (seen_slots (record { types = l.types; classes = l.classes }) l.class l.word l.seen) o)
