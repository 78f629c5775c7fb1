use Rattle.std.proofs.Common.{◌+◌, ◌-◌, length, map}
use Rattle.th_type.specs.Declarations.{declared_types}
use Rattle.th_type.specs.Closure.{Climbing, left}
use Rattle.th_type.specs.Pool.{Grows}
use Rattle.th_type.specs.Tables.{defs_of, above_of, Held}
use Rattle.th_type.proofs.climb.climb.Given as goal

abbrev pub invariant-loop-done : goal.invariant-loop-done
invariant-loop-done l = record {
  grows : Grows l.fn.pool l.pool;
  held : Held l.pool l.above;
  climbing : Climbing (declared_types (defs_of l.defs)) l.name (above_of l.pool l.above) l.done;
}

abbrev pub decreases-loop-done : goal.decreases-loop-done
decreases-loop-done l = left (map (λ d. d.name) (declared_types (defs_of l.defs))) (above_of l.pool l.above) + length (above_of l.pool l.above) - l.done
