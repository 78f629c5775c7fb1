use Rattle.std.proofs.Common.{◌≤◌, length, drop}
use Rattle.th_type.specs.Pool.{shapes_tys, IsNumbered, Grows}
use Rattle.th_type.proofs.pool.Pool.number_of.Given as goal

abbrev pub invariant-loop-left : goal.invariant-loop-left
invariant-loop-left l = record {
  grows : Grows l.fn.self l.self;
  list : IsNumbered l.self l.list (shapes_tys l.fn.self (drop l.left l.shapes));
  within : l.left ≤ length l.shapes;
}

abbrev pub decreases-loop-left : goal.decreases-loop-left
decreases-loop-left l = l.left
