use Rattle.std.proofs.Common.{◌≡◌, ◌++◌, map, drop}
use Rattle.th_type.specs.Signatures.{clause_of}
use Rattle.th_module_rules.specs.Units.{core_clause}
use Rattle.th_meaning.specs.View.{clause_of as core_clause_of}
use Rattle.th_cores.proofs.signature.core_clauses.Given as goal

abbrev pub invariant-loop-clause : goal.invariant-loop-clause
invariant-loop-clause l = map core_clause_of l.done.items ++ map (core_clause l.names) (map clause_of (drop l.clause-index l.clauses)) ≡ map (core_clause l.names) (map clause_of l.clauses)
