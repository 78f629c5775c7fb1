use Rattle.std.proofs.Common.{◌≡◌, ◌⊎◌, ◌<◌, ℕ, get_or, length, false, true, Some}
use Rattle.th_shape.specs.Order.{Leads}
use Rattle.th_shape.specs.Walk.{Marked, gaps}
use Rattle.th_shape.proofs.order.climb.Given as goal

abbrev pub invariant-loop-next : goal.invariant-loop-next
invariant-loop-next l = record {
  leads : Leads l.ups (Some l.from) l.path.items l.next;
  marked : Marked l.fn.marked l.marked l.path.items;
  within : (y : ℕ) → l.next ≡ Some y → y < length l.marked;
  first : (l.next ≡ Some l.from) ⊎ (get_or l.marked l.from false ≡ true);
}

abbrev pub decreases-loop-next : goal.decreases-loop-next
decreases-loop-next l = gaps l.marked
