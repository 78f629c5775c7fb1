use Rattle.std.proofs.Common.{◌↔◌, IsTrue, subst, sym}
use Rattle.th_rules.specs.Context.{class_head, routine_head}
use Rattle.th_module_rules.specs.ClassRules.{SameHead}
use Rattle.th_scope.specs.declared.item.Head.{Head}
use Rattle.th_scope.specs.ItemView.{class_of, item_head_of, routine_of}
use Rattle.th_overrides.proofs.Equals.{class_decides, routine_decides}
use Rattle.th_overrides.proofs.defined.same_head.Goals as goal

pub returns-in-Class-Class : goal.returns-in-Class-Class
returns-in-Class-Class c =
    subst (λ (h : Head). IsTrue c.same_class.result ↔ SameHead (item_head_of h) (item_head_of c.args.of.now)) (sym c.in-Class-Class.is-0)
    (subst (λ (h : Head). IsTrue c.same_class.result ↔ SameHead (class_head (class_of c.in-Class-Class.class)) (item_head_of h)) (sym c.in-Class-Class.is-1)
    (class_decides (class_of c.in-Class-Class.class) (class_of c.in-Class-Class.declared) c.same_class.result c.same_class.ensures))

pub returns-in-Routine-Routine : goal.returns-in-Routine-Routine
returns-in-Routine-Routine c =
    subst (λ (h : Head). IsTrue c.same_routine.result ↔ SameHead (item_head_of h) (item_head_of c.args.of.now)) (sym c.in-Routine-Routine.is-0)
    (subst (λ (h : Head). IsTrue c.same_routine.result ↔ SameHead (routine_head (routine_of c.in-Routine-Routine.routine)) (item_head_of h)) (sym c.in-Routine-Routine.is-1)
    (routine_decides (routine_of c.in-Routine-Routine.routine) (routine_of c.in-Routine-Routine.declared) c.same_routine.result c.same_routine.ensures))
