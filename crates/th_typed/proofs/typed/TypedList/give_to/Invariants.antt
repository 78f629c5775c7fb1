use Rattle.std.proofs.Common.{◌≡◌}
use Rattle.th_type.specs.Types.{tys_of}
use Rattle.th_rules.specs.Callees.{given_all}
use Rattle.th_scope.specs.View.{context_of}
use Rattle.th_typed.specs.View.{checks_of, givens_of, turned_givens}
use Rattle.th_typed.proofs.typed.TypedList.give_to.Given as goal

abbrev pub invariant-loop-self : goal.invariant-loop-self
invariant-loop-self l =
    turned_givens (givens_of l.done) (given_all (context_of l.env) (tys_of l.rest) (checks_of l.self)) ≡ given_all (context_of l.env) (tys_of l.formals) (checks_of l.fn.self)
