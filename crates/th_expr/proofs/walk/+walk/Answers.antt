use Rattle.std.proofs.Common.{sym, ap, ◌∙◌}
use Rattle.th_tree.specs.declared.tree.ExprList.{ExprList}
use Rattle.th_tree.specs.View.{exprs_of}
use Rattle.th_scope.specs.View.{context_of, handled_of, locals_of}
use Rattle.th_expr.proofs.Args.{fails_along, fails_are, raises_along, raises_are}
use Rattle.th_expr.proofs.walk.+walk.Goals as goal

pub walk_args-returns-in-NoExpr-clause-least : goal.walk_args-returns-in-NoExpr-clause-least
walk_args-returns-in-NoExpr-clause-least t c =
    ap (λ (x : ExprList). fails_along (context_of c.args.env.now) (locals_of c.args.locals.now) (exprs_of x) c.loop-rest.least) (sym c.in-NoExpr.is)
    ∙ c.loop-rest.invariant.1 ∙ fails_are (context_of c.args.env.now) (locals_of c.args.locals.now) (exprs_of c.args.list.now) c.args.least.now

pub walk_args-returns-in-NoExpr-clause-raised : goal.walk_args-returns-in-NoExpr-clause-raised
walk_args-returns-in-NoExpr-clause-raised t c =
    ap (λ (x : ExprList). raises_along (context_of c.args.env.now) (locals_of c.args.locals.now) (handled_of c.args.handled.now) (exprs_of x) c.loop-rest.raised) (sym c.in-NoExpr.is)
    ∙ c.loop-rest.invariant.2 ∙ raises_are (context_of c.args.env.now) (locals_of c.args.locals.now) (handled_of c.args.handled.now) (exprs_of c.args.list.now) c.args.raised.now
