use Rattle.std.proofs.Common.{ap, sym, ◌∙◌}
use Rattle.th_mach.specs.Done.{halt_of}
use Rattle.th_mach.specs.Status.{status_of}
use Rattle.th_mach.proofs.Turns.{stopped_turn, trapped_turn}
use Rattle.th_mach.proofs.machine.Machine.turn.Goals as goal

pub returns-in-Stopped : goal.returns-in-Stopped
returns-in-Stopped g c = stopped_turn c.args.self.now (halt_of c.in-Stopped.end) c.outcome.result _ _ _ _ _ (sym (ap (λ x. x.machine.status) c.self.view_is) ∙ ap status_of c.in-Stopped.is) c.outcome.ensures

pub returns-in-Trapped : goal.returns-in-Trapped
returns-in-Trapped g c = trapped_turn c.args.self.now c.in-Trapped.cause c.in-Trapped.pc _ _ _ _ _ (sym (ap (λ x. x.machine.status) c.self.view_is) ∙ ap status_of c.in-Trapped.is)
