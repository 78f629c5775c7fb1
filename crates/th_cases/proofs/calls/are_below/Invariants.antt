use Rattle.std.proofs.Common.{◌<◌, map, take}
use Rattle.th_type.specs.Lists.{IsIn}
use Rattle.th_type.specs.Signatures.{Constraint, clause_of}
use Rattle.th_cases.proofs.calls.are_below.Given as goal

abbrev pub invariant-loop-clause : goal.invariant-loop-clause
invariant-loop-clause l = (c : Constraint) → IsIn c (map clause_of (take l.clause-index l.clauses)) → c.param < l.count
