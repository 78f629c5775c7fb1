use Rattle.std.proofs.Common.{◌≡◌, ◌≤◌}
use Rattle.th_tree.specs.declared.tree.ExprList.{size-ExprList}
use Rattle.th_tree.specs.View.{exprs_of}
use Rattle.th_rules.specs.Typing.{typed_all}
use Rattle.th_scope.specs.View.{context_of, locals_of, handled_of}
use Rattle.th_typed.specs.View.{checks_of, checks_onto}
use Rattle.th_expr.proofs.Args.{fails_along, raises_along}
use Rattle.th_expr.proofs.walk.+walk.Given as goal

abbrev pub invariant-walk_args-loop-rest : goal.invariant-walk_args-loop-rest
invariant-walk_args-loop-rest l =
    (checks_onto (checks_of l.done) (typed_all (context_of l.env) (locals_of l.locals) (exprs_of l.rest)) ≡ typed_all (context_of l.env) (locals_of l.locals) (exprs_of l.list))
    × (fails_along (context_of l.env) (locals_of l.locals) (exprs_of l.rest) l.least ≡ fails_along (context_of l.env) (locals_of l.locals) (exprs_of l.list) l.fn.least)
    × (raises_along (context_of l.env) (locals_of l.locals) (handled_of l.handled) (exprs_of l.rest) l.raised ≡ raises_along (context_of l.env) (locals_of l.locals) (handled_of l.handled) (exprs_of l.list) l.fn.raised)
    × (size-ExprList l.rest ≤ size-ExprList l.list)
