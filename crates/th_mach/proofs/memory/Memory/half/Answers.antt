use Rattle.std.proofs.Common.{◌∙◌}
use Rattle.th_mach.proofs.Apart.{number_held}
use Rattle.th_mach.proofs.memory.Memory.half.Goals as goal

pub returns-in-Some-clause-number : goal.returns-in-Some-clause-number
returns-in-Some-clause-number c = c.half.ensures.number ∙ number_held 2 c.args.flag c.args.self.now c.in-Some.k c.args.at c.index-area.result.now (rw (← c.self.view_is) c.self.invariant) (rw (← c.self.view_is) c.index-area.ensures) c.in-Some.ensures
