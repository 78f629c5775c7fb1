use Rattle.std.proofs.Common.{◌≡◌, map, drop}
use Rattle.th_tree.specs.DeclView.{clause_of}
use Rattle.th_module_rules.specs.Limits.{clauses_counts}
use Rattle.th_limits.specs.Earliest.{earliest}
use Rattle.th_limits.proofs.heads.measure_clauses.Given as goal

abbrev pub invariant-loop-clause : goal.invariant-loop-clause
invariant-loop-clause l = earliest l.first (clauses_counts l.text (map clause_of (drop l.clause-index l.clauses))) ≡ earliest l.fn.first (clauses_counts l.text (map clause_of l.clauses))
