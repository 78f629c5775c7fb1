use Rattle.std.proofs.Common.{◌≡◌, map, drop}
use Rattle.th_type.specs.Types.{tys_of, list_of}
use Rattle.th_type.specs.Signatures.{clause_of}
use Rattle.th_meaning.specs.View.{supply_of}
use Rattle.th_rules.specs.Supplies.{supplies_of}
use Rattle.th_scope.specs.View.{context_of}
use Rattle.th_supply.proofs.Supplying.{supplies_after}
use Rattle.th_supply.proofs.supply.supplies_of.Given as goal

abbrev pub invariant-loop-clause : goal.invariant-loop-clause
invariant-loop-clause l =
    supplies_after (map supply_of l.done.items) (supplies_of (context_of l.env) (list_of (tys_of l.args)) (map clause_of (drop l.clause-index l.clauses)))
    ≡ supplies_of (context_of l.env) (list_of (tys_of l.args)) (map clause_of l.clauses)
