use Rattle.std.proofs.Common.{sym, ap, ◌∙◌}
use Rattle.th_tree.specs.View.{body_of}
use Rattle.th_scope.specs.View.{context_of, locals_of}
use Rattle.th_stmt_forms.specs.View.{body_opt}
use Rattle.th_stmt.proofs.Refused.{refused, not_refused}
use Rattle.th_stmt.proofs.check.check_body.Goals as goal

pub returns-in-Some : goal.returns-in-Some
returns-in-Some c =
    refused (context_of c.args.env.now) (locals_of c.args.env.now.locals) (body_of c.args.tree.now) c.in-Some.failure c.requires (sym c.in-Ok.ensures.least ∙ c.in-Some.is)

pub unreachable-requires : goal.unreachable-requires
unreachable-requires c =
    not_refused (context_of c.args.env.now) (locals_of c.args.env.now.locals) (body_of c.args.tree.now) c.requires (sym c.in-Ok.ensures.least ∙ c.in-None.is)
    (sym c.in-Ok.ensures.core ∙ ap body_opt c.in-None-found.is)
