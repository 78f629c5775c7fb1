use Rattle.std.proofs.Common.{◌≤◌}
use Rattle.th_meaning.specs.declared.expr.CoreExprList.{size-CoreExprList}
use Rattle.th_meaning.proofs.+exprs.Given as goal

abbrev pub invariant-expr::CoreExprList::drop-loop-self : goal.invariant-expr::CoreExprList::drop-loop-self
invariant-expr::CoreExprList::drop-loop-self l = size-CoreExprList l.self ≤ size-CoreExprList l.fn.self
