use Rattle.std.proofs.Common.{◌∙◌, ap, sym, subst}
use Rattle.th_meaning.specs.Trees.{more_stmts}
use Rattle.th_meaning.specs.View.{expr_of, stmt_of, body_of}
use Rattle.th_quick.specs.Statements.{Binds}
use Rattle.th_quick.proofs.Quickly.{binds_in}
use Rattle.th_quick.proofs.statements.quick_stmt.Goals as goal

pub returns-in-Some-quick-clause-goes : goal.returns-in-Some-quick-clause-goes
returns-in-Some-quick-clause-goes c =
    binds_in c.args.control.now.frame c.bind.new.self (body_of c.args.body.now) (stmt_of c.in-MoreStmt.stmt.value) (body_of c.deref-in-Some-quick.result.now) c.in-Some.local (expr_of c.in-Some.expr.now)
    c.in-Some-quick.value
    (ap body_of c.in-MoreStmt.is ∙ ap (λ o. more_stmts (stmt_of c.in-MoreStmt.stmt.value) (body_of o)) (sym c.deref-in-Some-quick.ensures))
    (subst (λ s. Binds (stmt_of s) c.in-Some.local (expr_of c.in-Some.expr.now)) c.deref.ensures c.in-Some.ensures) c.in-Some-quick.ensures c.bind.ensures
