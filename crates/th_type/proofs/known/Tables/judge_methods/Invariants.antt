use Rattle.std.proofs.Common.{◌≡◌, drop}
use Rattle.th_type.specs.Failures.{lowest}
use Rattle.th_type.specs.Tests.{all_failures}
use Rattle.th_type.specs.Tables.{defs_of, tables_up, tables_methods}
use Rattle.th_type.proofs.known.Tables.judge_methods.Given as goal

abbrev pub invariant-loop-k : goal.invariant-loop-k
invariant-loop-k l = lowest l.found (all_failures (tables_up l.self) (tables_methods l.self) (drop l.k (defs_of l.defs))) ≡ lowest l.fn.found (all_failures (tables_up l.self) (tables_methods l.self) (defs_of l.defs))
