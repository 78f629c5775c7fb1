use Rattle.std.proofs.Common.{◌∙◌}
use Rattle.th_mach.proofs.Apart.{number_held}
use Rattle.th_mach.proofs.memory.Memory.word.Goals as goal

pub returns-in-Some : goal.returns-in-Some
returns-in-Some c = c.word.ensures ∙ number_held 4 c.args.flag c.args.self.now c.in-Some.k c.args.at c.index-area.result.now (rw (← c.self.view_is) c.self.invariant) (rw (← c.self.view_is) c.index-area.ensures) c.in-Some.ensures
