use Rattle.std.proofs.Common.{◌≡◌, ℤ, ◌+◌, drop}
use Rattle.std.specs.Ordering.{int_cmp}
use Rattle.std.specs.BTreeMap.{get}
use Rattle.th_views.specs.Contents.{first_at}
use Rattle.th_offsets.specs.Maps.{or_else}
use Rattle.th_layout.specs.Runs.{own_run}
use Rattle.th_layout.proofs.tables.add_run_slots.Given as goal

abbrev pub invariant-loop-method : goal.invariant-loop-method
invariant-loop-method l = record {
  at : l.k ≡ l.fn.from + l.method-index;
  kept : (o : ℤ) → or_else (get int_cmp l.map o) (first_at (own_run (record { types = l.types; classes = l.classes }) l.class l.place l.upward l.k (drop l.method-index l.methods)) o)
      ≡ or_else (get int_cmp l.fn.map o) (first_at (own_run (record { types = l.types; classes = l.classes }) l.class l.place l.upward l.fn.from l.methods) o);
}
