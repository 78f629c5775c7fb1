use Rattle.std.proofs.Common.{◌≡◌, Some, None, refl, sym, ◌∙◌}
use Rattle.th_tree.specs.View.{expr_of}
use Rattle.th_type.specs.Failures.{lowest}
use Rattle.th_rules.specs.Failing.{fails}
use Rattle.th_scope.specs.View.{context_of, locals_of}
use Rattle.th_expr.proofs.Refusing.{is_least}
use Rattle.th_expr.proofs.check.check_expr.Goals as goal

pub returns-in-Some : goal.returns-in-Some
returns-in-Some c =
    let fs = fails (context_of c.args.env.now) (locals_of c.args.env.now.locals) (expr_of c.args.tree.now) in
    let e : Some c.in-Some.failure ≡ lowest None fs = sym c.in-Some.is ∙ c.in-Ok.ensures.least in
    (c.in-Some.failure, is_least fs (Some c.in-Some.failure) e, refl, refl)
