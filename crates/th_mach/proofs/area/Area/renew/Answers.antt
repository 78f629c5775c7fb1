use Rattle.th_mach.proofs.Kept.{spells_set}
use Rattle.th_mach.proofs.area.Area.renew.Goals as goal

pub invariant_of-self : goal.invariant_of-self
invariant_of-self c = spells_set _ c.self.inside.code.items c.args.k c.read-instr.result c.self.invariant (rw (← c.self.view_is) at c.read-instr.ensures)
