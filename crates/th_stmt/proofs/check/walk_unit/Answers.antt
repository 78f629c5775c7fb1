use Rattle.std.proofs.Common.{◌∙◌}
use Rattle.th_tree.specs.View.{body_of}
use Rattle.th_scope.specs.View.{context_of, locals_of}
use Rattle.th_stmt.proofs.Merging.{unit_least}
use Rattle.th_stmt.proofs.check.walk_unit.Goals as goal

pub returns-clause-least : goal.returns-clause-least
returns-clause-least c =
    unit_least (context_of c.args.env.now) (locals_of c.args.env.now.locals) _ _ _ (body_of c.args.tree.now) _ _ _ _ c.merge.ensures c.in_ok-body.ensures.least c.in_ok-body.ensures.raised
    c.in_ok-locals.ensures.list c.in_ok-locals.ensures.count (c.in_ok-signals.ensures ∙ c.as_slice.ensures)
