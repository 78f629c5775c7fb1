use Rattle.th_tree.specs.DeclView.{init_of}
use Rattle.th_module_rules.specs.Modules.{inherited_at}
use Rattle.th_scope.specs.View.{class_of, context_of, locals_of}
use Rattle.th_modules.proofs.Units.{init_kept}
use Rattle.th_modules.proofs.class.judge_init.Goals as goal

pub returns-clause-least : goal.returns-clause-least
returns-clause-least c =
    init_kept (context_of c.args.env.now) (locals_of c.args.env.now.locals) (class_of c.args.class.now) (inherited_at (context_of c.args.env.now) (class_of c.args.class.now).inherits) (init_of c.args.tree.now.init)
    c.args.least.now c.walk_init.new.least c.walk_init.new.raised c.merge.new.least c.in_ok-body.ensures.least c.in_ok-body.ensures.raised c.merge.ensures
