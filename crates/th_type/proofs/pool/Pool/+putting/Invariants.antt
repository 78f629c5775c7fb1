use Rattle.std.proofs.Common.{◌≤◌}
use Rattle.th_type.specs.Types.{tys_of}
use Rattle.th_type.specs.Pool.{ty_parts, tys_parts}
use Rattle.th_type.proofs.Pooling.{Putting}
use Rattle.th_type.proofs.pool.Pool.+putting.Given as goal

abbrev pub decreases-shape_with : goal.decreases-shape_with
decreases-shape_with l = ty_parts l.ty.now

abbrev pub decreases-list_with : goal.decreases-list_with
decreases-list_with l = tys_parts l.list.now

abbrev pub invariant-list_with-loop-rest : goal.invariant-list_with-loop-rest
invariant-list_with-loop-rest l = Putting l.fn.self l.self l.args l.shapes.items (tys_of l.rest) (tys_of l.fn.list) × (tys_parts l.rest ≤ tys_parts l.fn.list)
