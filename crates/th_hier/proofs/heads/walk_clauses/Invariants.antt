use Rattle.std.proofs.Common.{◌≡◌, map, drop}
use Rattle.th_tree.specs.DeclView.{clause_of}
use Rattle.th_type.specs.Failures.{lowest}
use Rattle.th_hier.specs.Heads.{clauses_fail}
use Rattle.th_hier.proofs.heads.walk_clauses.Given as goal

abbrev pub invariant-loop-clause : goal.invariant-loop-clause
invariant-loop-clause l = lowest l.least (clauses_fail l.index l.sight l.text (map clause_of (drop l.clause-index l.clauses))) ≡ lowest l.fn.least (clauses_fail l.index l.sight l.text (map clause_of l.clauses))
