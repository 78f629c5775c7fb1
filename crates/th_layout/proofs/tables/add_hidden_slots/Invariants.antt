use Rattle.std.proofs.Common.{◌≡◌, ℤ, ◌+◌, drop}
use Rattle.std.specs.Ordering.{int_cmp}
use Rattle.std.specs.BTreeMap.{get}
use Rattle.th_views.specs.Contents.{first_at, hidden_slots}
use Rattle.th_offsets.specs.Maps.{or_else}
use Rattle.th_layout.proofs.tables.add_hidden_slots.Given as goal

abbrev pub invariant-loop-method : goal.invariant-loop-method
invariant-loop-method l = record {
  at : l.k ≡ l.fn.from + l.method-index;
  kept : (o : ℤ) → or_else (get int_cmp l.map o) (first_at (hidden_slots (record { types = l.types; classes = l.classes }) l.class l.k (drop l.method-index l.methods)) o)
      ≡ or_else (get int_cmp l.fn.map o) (first_at (hidden_slots (record { types = l.types; classes = l.classes }) l.class l.fn.from l.methods) o);
}
