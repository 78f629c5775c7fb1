use Rattle.std.proofs.Common.{◌≡◌, [], map, drop}
use Rattle.th_tree.specs.DeclView.{clause_of}
use Rattle.th_type.specs.Failures.{lowest}
use Rattle.th_own.specs.Naming.{clauses_fail_after}
use Rattle.th_own.proofs.clauses.judge_with.Given as goal

abbrev pub invariant-loop-clause : goal.invariant-loop-clause
invariant-loop-clause l = lowest l.least (clauses_fail_after l.text l.params l.seen.keys (map clause_of (drop l.clause-index l.clauses))) ≡ lowest l.fn.least (clauses_fail_after l.text l.params [] (map clause_of l.clauses))
