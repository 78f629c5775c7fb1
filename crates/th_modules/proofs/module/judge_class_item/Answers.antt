use Rattle.std.proofs.Common.{sym, subst, ◌≡◌, None}
use Rattle.std.specs.Prelude.{IfOk, OnOk}
use Rattle.th_tree.specs.DeclView.{class_of}
use Rattle.th_tree.specs.Trees.{module_class}
use Rattle.th_scope.specs.View.{item_head_of}
use Rattle.th_scope.specs.declared.item.Head.{Head}
use Rattle.th_module_rules.specs.Modules.{HeadFails}
use Rattle.th_module_rules.specs.Units.{class_units}
use Rattle.th_modules.specs.Lowering.{Lowers}
use Rattle.th_modules.specs.View.{judged_of, units_opt}
use Rattle.th_modules.proofs.Lowering.{lowers_none}
use Rattle.th_modules.proofs.module.judge_class_item.Goals as goal

pub returns-in-Class-clause-units : goal.returns-in-Class-clause-units
returns-in-Class-clause-units c =
    subst (λ (h : Head). IfOk c.judge_class.result (λ r. c.judge_class.new.least ≡ None → units_opt r ≡ class_units (judged_of c.args.judging.now) c.args.item.now.full (class_of c.args.tree.now) (item_head_of h)))
    (sym c.in-Class.is) c.judge_class.ensures.units

pub returns-in-Class-clause-least : goal.returns-in-Class-clause-least
returns-in-Class-clause-least c =
    subst (λ (h : Head). OnOk c.judge_class.result (Lowers (HeadFails (judged_of c.args.judging.now) c.args.item.now.full (module_class (class_of c.args.tree.now)) (item_head_of h)) c.args.least.now c.judge_class.new.least))
    (sym c.in-Class.is) c.judge_class.ensures.least

pub returns-in-Exception-clause-least : goal.returns-in-Exception-clause-least
returns-in-Exception-clause-least c =
    subst (λ (h : Head). Lowers (HeadFails (judged_of c.args.judging.now) c.args.item.now.full (module_class (class_of c.args.tree.now)) (item_head_of h)) c.args.least.now c.args.least.now)
    (sym c.in-Exception.is) (lowers_none (λ f. ⊥) c.args.least.now (λ g n. n))

pub returns-in-Declared-clause-least : goal.returns-in-Declared-clause-least
returns-in-Declared-clause-least c =
    subst (λ (h : Head). Lowers (HeadFails (judged_of c.args.judging.now) c.args.item.now.full (module_class (class_of c.args.tree.now)) (item_head_of h)) c.args.least.now c.args.least.now)
    (sym c.in-Declared.is) (lowers_none (λ f. ⊥) c.args.least.now (λ g n. n))

pub returns-in-Routine-clause-least : goal.returns-in-Routine-clause-least
returns-in-Routine-clause-least c =
    subst (λ (h : Head). Lowers (HeadFails (judged_of c.args.judging.now) c.args.item.now.full (module_class (class_of c.args.tree.now)) (item_head_of h)) c.args.least.now c.args.least.now)
    (sym c.in-Routine.is) (lowers_none (λ f. ⊥) c.args.least.now (λ g n. n))
