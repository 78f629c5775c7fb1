use Rattle.std.proofs.Common.{[], ◌∙◌, ap, sym}
use Rattle.th_tree.specs.declared.tree.Body.{Body}
use Rattle.th_tree.specs.declared.tree.ElseTree.{ElseTree}
use Rattle.th_tree.specs.declared.tree.WhenList.{WhenList}
use Rattle.th_tree.specs.View.{body_of, else_of, whens_of}
use Rattle.th_scope.specs.View.{context_of, handled_of, locals_of}
use Rattle.th_stmt_forms.specs.View.{body_opt, else_opt, whens_opt}
use Rattle.th_stmt.proofs.Walking.{body_along, body_is, fails_along, fails_are, raises_along, raises_are, else_along, else_is, else_fails_along, else_fails_are, else_raises_along, else_raises_are, whens_along, whens_are, whens_fail_along, whens_fails_are, whens_raise_along, whens_raises_are}
use Rattle.th_stmt.proofs.walk.+walk.Goals as goal

pub walk_body-returns-in-NoStmt-clause-core : goal.walk_body-returns-in-NoStmt-clause-core
walk_body-returns-in-NoStmt-clause-core t c =
    c.turned_body.ensures ∙ ap (λ (x : Body). body_along (context_of c.args.env.now) (locals_of c.loop-rest.locals) c.args.looping c.loop-rest.next (body_of x) (body_opt c.loop-rest.done)) (sym c.in-NoStmt.is)
    ∙ c.loop-rest.invariant.core ∙ body_is (context_of c.args.env.now) (locals_of c.args.locals.now) c.args.looping c.args.next.now (body_of c.args.tree.now)

pub walk_body-returns-in-NoStmt-clause-least : goal.walk_body-returns-in-NoStmt-clause-least
walk_body-returns-in-NoStmt-clause-least t c =
    ap (λ (x : Body). fails_along (context_of c.args.env.now) (locals_of c.loop-rest.locals) c.args.looping c.loop-rest.next (body_of x) c.loop-rest.least) (sym c.in-NoStmt.is)
    ∙ c.loop-rest.invariant.least ∙ fails_are (context_of c.args.env.now) (locals_of c.args.locals.now) c.args.looping c.args.next.now (body_of c.args.tree.now) c.args.least.now

pub walk_body-returns-in-NoStmt-clause-raised : goal.walk_body-returns-in-NoStmt-clause-raised
walk_body-returns-in-NoStmt-clause-raised t c =
    ap (λ (x : Body). raises_along (context_of c.args.env.now) (locals_of c.loop-rest.locals) (handled_of c.args.handled.now) c.loop-rest.next (body_of x) c.loop-rest.raised) (sym c.in-NoStmt.is)
    ∙ c.loop-rest.invariant.raised ∙ raises_are (context_of c.args.env.now) (locals_of c.args.locals.now) (handled_of c.args.handled.now) c.args.next.now (body_of c.args.tree.now) c.args.raised.now

pub walk_else-returns-in-NoElse-clause-core : goal.walk_else-returns-in-NoElse-clause-core
walk_else-returns-in-NoElse-clause-core t c =
    c.turned_else.ensures ∙ ap (λ (x : ElseTree). else_along (context_of c.args.env.now) (locals_of c.args.locals.now) c.args.looping c.loop-rest.next (else_of x) (else_opt c.loop-rest.done)) (sym c.in-NoElse.is)
    ∙ c.loop-rest.invariant.core ∙ else_is (context_of c.args.env.now) (locals_of c.args.locals.now) c.args.looping c.args.next.now (else_of c.args.tree.now)

pub walk_else-returns-in-NoElse-clause-least : goal.walk_else-returns-in-NoElse-clause-least
walk_else-returns-in-NoElse-clause-least t c =
    ap (λ (x : ElseTree). else_fails_along (context_of c.args.env.now) (locals_of c.args.locals.now) c.args.looping c.loop-rest.next (else_of x) c.loop-rest.least) (sym c.in-NoElse.is)
    ∙ c.loop-rest.invariant.least ∙ else_fails_are (context_of c.args.env.now) (locals_of c.args.locals.now) c.args.looping c.args.next.now (else_of c.args.tree.now) c.args.least.now

pub walk_else-returns-in-NoElse-clause-raised : goal.walk_else-returns-in-NoElse-clause-raised
walk_else-returns-in-NoElse-clause-raised t c =
    ap (λ (x : ElseTree). else_raises_along (context_of c.args.env.now) (locals_of c.args.locals.now) (handled_of c.args.handled.now) c.loop-rest.next (else_of x) c.loop-rest.raised) (sym c.in-NoElse.is)
    ∙ c.loop-rest.invariant.raised ∙ else_raises_are (context_of c.args.env.now) (locals_of c.args.locals.now) (handled_of c.args.handled.now) c.args.next.now (else_of c.args.tree.now) c.args.raised.now

pub walk_whens-returns-in-NoWhen-clause-core : goal.walk_whens-returns-in-NoWhen-clause-core
walk_whens-returns-in-NoWhen-clause-core t c =
    c.turned_whens.ensures ∙ ap (λ (x : WhenList). whens_along (context_of c.args.env.now) (locals_of c.args.locals.now) c.args.looping c.loop-rest.seen.keys c.loop-rest.next (whens_of x) (whens_opt c.loop-rest.done)) (sym c.in-NoWhen.is)
    ∙ c.loop-rest.invariant.core ∙ whens_are (context_of c.args.env.now) (locals_of c.args.locals.now) c.args.looping [] c.args.next.now (whens_of c.args.tree.now)

pub walk_whens-returns-in-NoWhen-clause-least : goal.walk_whens-returns-in-NoWhen-clause-least
walk_whens-returns-in-NoWhen-clause-least t c =
    ap (λ (x : WhenList). whens_fail_along (context_of c.args.env.now) (locals_of c.args.locals.now) c.args.looping c.loop-rest.seen.keys c.loop-rest.next (whens_of x) c.loop-rest.least) (sym c.in-NoWhen.is)
    ∙ c.loop-rest.invariant.least ∙ whens_fails_are (context_of c.args.env.now) (locals_of c.args.locals.now) c.args.looping [] c.args.next.now (whens_of c.args.tree.now) c.args.least.now

pub walk_whens-returns-in-NoWhen-clause-raised : goal.walk_whens-returns-in-NoWhen-clause-raised
walk_whens-returns-in-NoWhen-clause-raised t c =
    ap (λ (x : WhenList). whens_raise_along (context_of c.args.env.now) (locals_of c.args.locals.now) (handled_of c.args.handled.now) c.loop-rest.next (whens_of x) c.loop-rest.raised) (sym c.in-NoWhen.is)
    ∙ c.loop-rest.invariant.raised ∙ whens_raises_are (context_of c.args.env.now) (locals_of c.args.locals.now) (handled_of c.args.handled.now) c.args.next.now (whens_of c.args.tree.now) c.args.raised.now
