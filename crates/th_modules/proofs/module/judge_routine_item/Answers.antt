use Rattle.std.proofs.Common.{sym, subst, ap, ◌∙◌, ◌∷◌, [], option_map}
use Rattle.th_tree.specs.DeclView.{routine_of}
use Rattle.th_tree.specs.Trees.{module_routine}
use Rattle.th_scope.specs.View.{item_head_of}
use Rattle.th_scope.specs.declared.item.Head.{Head}
use Rattle.th_module_rules.specs.Modules.{HeadFails, routine_fails}
use Rattle.th_module_rules.specs.Units.{routine_unit}
use Rattle.th_modules.specs.Lowering.{Lowers}
use Rattle.th_modules.specs.View.{judged_of}
use Rattle.th_modules.proofs.Lowering.{lowers_list, lowers_none}
use Rattle.th_modules.proofs.module.judge_routine_item.Goals as goal

pub returns-in_ok-units-in-Routine-clause-units : goal.returns-in_ok-units-in-Routine-clause-units
returns-in_ok-units-in-Routine-clause-units c = λ own none.
    c.in_ok-units-in-Routine.ensures
    ∙ ap (option_map (λ u. u ∷ [])) (c.in_ok-unit-in-Routine.ensures.unit none ∙ ap (routine_unit (judged_of c.args.judging.now) c.args.item.now.full (routine_of c.args.tree.now)) (sym own))

pub returns-in_ok-units-in-Routine-clause-least : goal.returns-in_ok-units-in-Routine-clause-least
returns-in_ok-units-in-Routine-clause-least c =
    subst (λ (h : Head). Lowers (HeadFails (judged_of c.args.judging.now) c.args.item.now.full (module_routine (routine_of c.args.tree.now)) (item_head_of h)) c.args.least.now c.judge_routine.new.least)
    (sym c.in-Routine.is) (lowers_list c.args.least.now c.judge_routine.new.least (routine_fails (judged_of c.args.judging.now) (routine_of c.args.tree.now)) c.in_ok-unit-in-Routine.ensures.least)

pub returns-in-Exception-clause-least : goal.returns-in-Exception-clause-least
returns-in-Exception-clause-least c =
    subst (λ (h : Head). Lowers (HeadFails (judged_of c.args.judging.now) c.args.item.now.full (module_routine (routine_of c.args.tree.now)) (item_head_of h)) c.args.least.now c.args.least.now)
    (sym c.in-Exception.is) (lowers_none (λ f. ⊥) c.args.least.now (λ g n. n))

pub returns-in-Declared-clause-least : goal.returns-in-Declared-clause-least
returns-in-Declared-clause-least c =
    subst (λ (h : Head). Lowers (HeadFails (judged_of c.args.judging.now) c.args.item.now.full (module_routine (routine_of c.args.tree.now)) (item_head_of h)) c.args.least.now c.args.least.now)
    (sym c.in-Declared.is) (lowers_none (λ f. ⊥) c.args.least.now (λ g n. n))

pub returns-in-Class-clause-least : goal.returns-in-Class-clause-least
returns-in-Class-clause-least c =
    subst (λ (h : Head). Lowers (HeadFails (judged_of c.args.judging.now) c.args.item.now.full (module_routine (routine_of c.args.tree.now)) (item_head_of h)) c.args.least.now c.args.least.now)
    (sym c.in-Class.is) (lowers_none (λ f. ⊥) c.args.least.now (λ g n. n))
