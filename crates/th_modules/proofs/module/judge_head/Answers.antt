use Rattle.std.proofs.Common.{sym, subst, ap, ◌∙◌, Some}
use Rattle.th_tree.specs.DeclView.{module_item_of}
use Rattle.th_tree.specs.declared.decl.ModuleItem.{ModuleItem}
use Rattle.th_scope.specs.View.{item_head_of, item_of}
use Rattle.th_module_rules.specs.Modules.{HeadFails}
use Rattle.th_module_rules.specs.Units.{item_units}
use Rattle.th_modules.specs.Lowering.{Lowers}
use Rattle.th_modules.specs.Own.{HasOwnHead}
use Rattle.th_modules.specs.View.{judged_of}
use Rattle.th_modules.proofs.module.judge_head.Goals as goal

pub returns-in_ok-units-in-Class-clause-units : goal.returns-in_ok-units-in-Class-clause-units
returns-in_ok-units-in-Class-clause-units c = λ own none.
    c.in_ok-units-in-Class.ensures.units none ∙ ap (λ (t : ModuleItem). item_units (judged_of c.args.judging.now) (module_item_of t) (Some (item_of c.args.item.now))) (sym c.in-Class.is)

pub returns-in_ok-units-in-Class-clause-least : goal.returns-in_ok-units-in-Class-clause-least
returns-in_ok-units-in-Class-clause-least c =
    subst (λ (t : ModuleItem). Lowers (HeadFails (judged_of c.args.judging.now) c.args.item.now.full (module_item_of t) (item_head_of c.args.item.now.head)) c.args.least.now c.judge_class_item.new.least)
    (sym c.in-Class.is) c.in_ok-units-in-Class.ensures.least

pub returns-in_ok-units-in-Routine-clause-units : goal.returns-in_ok-units-in-Routine-clause-units
returns-in_ok-units-in-Routine-clause-units c = λ own none.
    c.in_ok-units-in-Routine.ensures.units (subst (λ (t : ModuleItem). HasOwnHead (judged_of c.args.judging.now) (module_item_of t) (item_head_of c.args.item.now.head)) c.in-Routine.is own) none
    ∙ ap (λ (t : ModuleItem). item_units (judged_of c.args.judging.now) (module_item_of t) (Some (item_of c.args.item.now))) (sym c.in-Routine.is)

pub returns-in_ok-units-in-Routine-clause-least : goal.returns-in_ok-units-in-Routine-clause-least
returns-in_ok-units-in-Routine-clause-least c =
    subst (λ (t : ModuleItem). Lowers (HeadFails (judged_of c.args.judging.now) c.args.item.now.full (module_item_of t) (item_head_of c.args.item.now.head)) c.args.least.now c.judge_routine_item.new.least)
    (sym c.in-Routine.is) c.in_ok-units-in-Routine.ensures.least
