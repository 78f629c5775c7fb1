use Rattle.std.proofs.Common.{subst}
use Rattle.std.specs.Prelude.{IfOk}
use Rattle.th_type.specs.Ordering.{SupersFirst}
use Rattle.th_hier.proofs.hierarchy.Hierarchy.supers_first.Goals as goal

pub returns-clause-order : goal.returns-clause-order
returns-clause-order c = subst (λ h. IfOk c.supers_first.result (λ order. SupersFirst h.types order.items)) c.self.view_is c.supers_first.ensures.order
