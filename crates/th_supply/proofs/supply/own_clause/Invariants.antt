use Rattle.std.proofs.Common.{◌≡◌, map, drop}
use Rattle.th_type.specs.Signatures.{clause_of}
use Rattle.th_rules.specs.Supplies.{find_clause}
use Rattle.th_supply.proofs.supply.own_clause.Given as goal

abbrev pub invariant-loop-clause : goal.invariant-loop-clause
invariant-loop-clause l = find_clause l.place (map clause_of (drop l.clause-index l.clauses)) l.param l.method ≡ find_clause 0 (map clause_of l.clauses) l.param l.method
