use Rattle.th_tree.specs.DeclView.{class_of as tree_of}
use Rattle.th_scope.specs.View.{class_of, context_of, locals_of}
use Rattle.th_stmt_forms.specs.View.{body_opt}
use Rattle.th_modules.specs.View.{judged_of, unit_opt, units_opt}
use Rattle.th_modules.proofs.Classes.{parts_kept, parts_units}
use Rattle.th_modules.proofs.class.judge_parts.Goals as goal

pub returns-clause-units : goal.returns-clause-units
returns-clause-units c =
    parts_units (judged_of c.args.outer.now.judging.now) (class_of c.args.outer.now.class.now) c.args.full (tree_of c.args.tree.now) (context_of c.args.env.now) (locals_of c.args.env.now.locals)
    c.judge_init.new.least c.judge_own_methods.new.least (body_opt c.in_ok-body.body) (unit_opt c.in_ok-unit.unit) (units_opt c.in_ok-first.first) (units_opt c.in_ok-units.units)
    c.requires.context c.requires.locals c.in_ok-body.ensures.core c.in_ok-unit.ensures c.in_ok-first.ensures c.in_ok-units.ensures.least c.in_ok-units.ensures.units

pub returns-clause-least : goal.returns-clause-least
returns-clause-least c =
    parts_kept (judged_of c.args.outer.now.judging.now) (class_of c.args.outer.now.class.now) c.args.full (tree_of c.args.tree.now) (context_of c.args.env.now) (locals_of c.args.env.now.locals)
    c.args.least.now c.judge_inherits.new.least c.judge_init.new.least c.judge_own_methods.new.least
    c.requires.context c.requires.locals c.in_ok-judge_inherits.ensures c.in_ok-body.ensures.least c.in_ok-units.ensures.least
