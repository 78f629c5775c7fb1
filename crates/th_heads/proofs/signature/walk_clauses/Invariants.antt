use Rattle.std.proofs.Common.{◌≡◌, ◌++◌, map, drop}
use Rattle.th_tree.specs.DeclView.{clause_of as clause_tree_of}
use Rattle.th_type.specs.Signatures.{clause_of}
use Rattle.th_hier.specs.Heads.{clause_fails, clauses_fail}
use Rattle.th_heads.specs.Clauses.{clause_seen, clauses_seen}
use Rattle.th_type.specs.Failures.{lowest}
use Rattle.th_heads.proofs.signature.walk_clauses.Given as goal

abbrev pub invariant-loop-clause : goal.invariant-loop-clause
invariant-loop-clause l =
    (map clause_of l.done.items ++ clauses_seen l.found l.sight (map clause_tree_of (drop l.clause-index l.clauses)) ≡ clauses_seen l.found l.sight (map clause_tree_of l.clauses))
    × (lowest l.least (clauses_fail l.found l.sight l.text (map clause_tree_of (drop l.clause-index l.clauses))) ≡ lowest l.fn.least (clauses_fail l.found l.sight l.text (map clause_tree_of l.clauses)))
