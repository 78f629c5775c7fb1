use Rattle.th_mach.proofs.Kept.{if_fetched}
use Rattle.th_mach.proofs.memory.Memory.instr.Goals as goal

pub returns-in-Some-clause-spells : goal.returns-in-Some-clause-spells
returns-in-Some-clause-spells c = if_fetched c.args.self.now c.in-Some.k c.args.at c.index-area.result.now c.instr.result (rw (← c.self.view_is) c.self.invariant) (rw (← c.self.view_is) c.index-area.ensures) c.in-Some.ensures c.instr.ensures
