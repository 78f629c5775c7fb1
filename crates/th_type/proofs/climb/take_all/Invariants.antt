use Rattle.std.proofs.Common.{map, take}
use Rattle.th_type.specs.Declarations.{super_of}
use Rattle.th_type.specs.Closure.{all_taken}
use Rattle.th_type.specs.Pool.{shapes_tys, Grows}
use Rattle.th_type.specs.Tables.{TookIn}
use Rattle.th_type.proofs.climb.take_all.Given as goal

abbrev pub invariant-loop-member : goal.invariant-loop-member
invariant-loop-member l = record {
  grows : Grows l.fn.pool l.pool;
  took : TookIn l.fn.pool l.fn.above (all_taken (shapes_tys l.fn.pool l.args) (map super_of (take l.member-index l.members))) l.pool l.above;
}
