use Rattle.std.proofs.Common.{◌≡◌, Some, None, refl, sym, ap, ◌∙◌}
use Rattle.th_tree.specs.View.{expr_of}
use Rattle.th_type.specs.Failures.{lowest, place}
use Rattle.th_rules.specs.Callees.{as_call}
use Rattle.th_rules.specs.Failing.{call_fails, start}
use Rattle.th_scope.specs.View.{context_of, locals_of}
use Rattle.th_expr.proofs.Refusing.{is_least}
use Rattle.th_expr.proofs.check.check_call.Goals as goal

pub returns-in-Some : goal.returns-in-Some
returns-in-Some c =
    let fs = call_fails (context_of c.args.env.now) (locals_of c.args.env.now.locals) as_call (place c.args.env.now.text (start (expr_of c.args.tree.now))) (expr_of c.args.tree.now) in
    let e : Some c.in-Some.failure ≡ lowest None fs = sym c.in-Some.is ∙ c.in-Ok.ensures.least
    ∙ ap (λ q. lowest None (call_fails (context_of c.args.env.now) (locals_of c.args.env.now.locals) as_call q (expr_of c.args.tree.now))) (c.place_at-at.ensures ∙ ap (place c.args.env.now.text) c.start.ensures) in
    (c.in-Some.failure, is_least fs (Some c.in-Some.failure) e, refl, refl)
