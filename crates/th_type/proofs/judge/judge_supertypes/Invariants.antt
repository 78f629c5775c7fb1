use Rattle.std.proofs.Common.{take}
use Rattle.th_type.specs.Judged.{Judging}
use Rattle.th_type.specs.Tables.{defs_of}
use Rattle.th_type.proofs.judge.judge_supertypes.Given as goal

abbrev pub invariant-loop-k : goal.invariant-loop-k
invariant-loop-k l = Judging (defs_of l.defs) (take l.k (defs_of l.defs)) l.fn.found l.found l.table
