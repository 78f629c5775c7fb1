use Rattle.std.proofs.Common.{refl}
use Rattle.th_acts.proofs.Calling.{let_in}
use Rattle.th_acts.proofs.runner.Runner.admit.Goals as goal

pub returns-clause-admits : goal.returns-clause-admits
returns-clause-admits c = λ e left now w name h is.
    let_in e left now w name c.args.row c.args.receiver c.args.args.items c.in_ok-locals.locals.items c.new.result c.args.self.now (record c.args.self.now { store = c.reserve.new.self; entered = c.push.new.self }) h is
    (c.if-not-reserve.ensures.taken w h.alike) refl c.reserve.ensures.objects c.in_ok-push.ensures.items c.in_ok-locals.ensures c.new.ensures
