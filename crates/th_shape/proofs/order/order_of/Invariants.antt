use Rattle.std.proofs.Common.{◌≡◌, ◌<◌, ℕ, get_or, false, true}
use Rattle.th_shape.specs.Walk.{Placing}
use Rattle.th_shape.proofs.order.order_of.Given as goal

abbrev pub invariant-loop-k : goal.invariant-loop-k
invariant-loop-k l = record {
  placing : Placing l.ups l.marked l.order.items;
  done : (x : ℕ) → x < l.k → get_or l.marked x false ≡ true;
}
