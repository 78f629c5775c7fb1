use Rattle.std.proofs.Common.{sym}
use Rattle.th_control.proofs.Locals.{local_unset, local_bound}
use Rattle.th_control.proofs.control.Control.local.Goals as goal

pub returns-in-None : goal.returns-in-None
returns-in-None c = local_unset c.args.k c.args.self.now (sym c.in-None.ensures)

pub returns-in-Some : goal.returns-in-Some
returns-in-Some c = local_bound c.args.k c.args.self.now c.in-Some.value (sym c.in-Some.ensures)
