use Rattle.std.proofs.Common.{sym, ◌∙◌}
use Rattle.th_mach.proofs.Apart.{byte_held, byte_nowhere}
use Rattle.th_mach.proofs.memory.Memory.byte.Goals as goal

pub returns-in-Some : goal.returns-in-Some
returns-in-Some c = c.byte.ensures ∙ byte_held c.args.flag c.args.self.now c.in-Some.k c.args.at c.index-area.result.now (rw (← c.self.view_is) c.self.invariant) (rw (← c.self.view_is) c.index-area.ensures) c.in-Some.ensures.found

pub returns-in-None : goal.returns-in-None
returns-in-None c = sym (byte_nowhere c.args.flag c.args.self.now c.args.at c.in-None.ensures.none)
