use Rattle.std.proofs.Common.{◌≡◌, length}
use Rattle.th_type.specs.Types.{list_of}
use Rattle.th_type.specs.Pool.{tys_at, shapes_before, AllFit}
use Rattle.th_type.proofs.pool.Pool.shapes.Given as goal

abbrev pub invariant-loop-shapes : goal.invariant-loop-shapes
invariant-loop-shapes l = record {
  fit : AllFit l.self l.shapes.items;
  are : shapes_before l.self l.shapes.items (tys_at l.self l.rest) ≡ tys_at l.self l.list;
}

abbrev pub decreases-loop-shapes : goal.decreases-loop-shapes
decreases-loop-shapes l = length (list_of (tys_at l.self l.rest))
