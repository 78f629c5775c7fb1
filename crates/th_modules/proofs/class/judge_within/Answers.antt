use Rattle.std.proofs.Common.{ap, refl, ◌∙◌}
use Rattle.th_tree.specs.DeclView.{class_of as tree_of}
use Rattle.th_hier.specs.Naming.{Visible}
use Rattle.th_overrides.specs.Bodies.{body_above}
use Rattle.th_module_rules.specs.Contexts.{sig_or_bare}
use Rattle.th_module_rules.specs.ClassRules.{OverridesFail}
use Rattle.th_scope.specs.View.{class_of, context_of}
use Rattle.th_modules.specs.View.{judged_of}
use Rattle.th_modules.proofs.Classes.{class_kept, lists_none}
use Rattle.th_modules.proofs.class.judge_within.Goals as goal

pub judge_parts-requires-clause-context : goal.judge_parts-requires-clause-context
judge_parts-requires-clause-context c = c.init_env-env.ensures.context (tree_of c.args.tree.now).head.params (ap (λ (v : Visible). v.params) c.requires.sight)

pub judge_parts-requires-clause-locals : goal.judge_parts-requires-clause-locals
judge_parts-requires-clause-locals c = c.init_env-env.ensures.locals ∙ c.requires.locals

pub returns-clause-units : goal.returns-clause-units
returns-clause-units c = λ none. c.in_ok-units.ensures.units
    (lists_none (OverridesFail (context_of c.init_env-env.result)
    (body_above c.init_env-env.result.hierarchy.now.types (judged_of c.args.frame.now.outer.now.judging.now).bases (judged_of c.args.frame.now.outer.now.judging.now).own (class_of c.args.frame.now.outer.now.class.now).inherits)
    (sig_or_bare c.args.frame.now.outer.now.judging.now.found.now c.args.frame.now.sight.now) (class_of c.args.frame.now.outer.now.class.now) (tree_of c.args.tree.now))
    c.judge_parts.new.least c.judge_class.new.least (c.in_ok-judge_class.ensures (judged_of c.args.frame.now.outer.now.judging.now).own (λ n. refl)) none)

pub returns-clause-least : goal.returns-clause-least
returns-clause-least c =
    class_kept (judged_of c.args.frame.now.outer.now.judging.now) (class_of c.args.frame.now.outer.now.class.now) c.args.full (tree_of c.args.tree.now)
    (context_of c.init_env-env.result) c.args.frame.now.outer.now.judging.now.found.now c.args.frame.now.sight.now
    c.args.least.now c.judge_parts.new.least c.judge_class.new.least
    (c.init_env-env.ensures.context (tree_of c.args.tree.now).head.params (ap (λ (v : Visible). v.params) c.requires.sight))
    c.args.frame.now.outer.now.judging.now.found_is c.requires.sight c.in_ok-units.ensures.least (c.in_ok-judge_class.ensures (judged_of c.args.frame.now.outer.now.judging.now).own (λ n. refl))
