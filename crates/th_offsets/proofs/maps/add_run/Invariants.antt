use Rattle.std.proofs.Common.{◌≡◌, ℕ, ◌+◌, drop}
use Rattle.std.specs.Prelude.{nat_eq}
use Rattle.std.specs.HashMap.{get}
use Rattle.th_offsets.specs.Maps.{or_else, offset_from}
use Rattle.th_offsets.proofs.maps.add_run.Given as goal

abbrev pub invariant-loop-method : goal.invariant-loop-method
invariant-loop-method l = record {
  at : l.k ≡ l.fn.from + l.method-index;
  kept : (q : ℕ) → or_else (get nat_eq l.into q) (offset_from l.upward l.k (drop l.method-index l.methods) q) ≡ or_else (get nat_eq l.fn.into q) (offset_from l.upward l.fn.from l.methods q);
}
