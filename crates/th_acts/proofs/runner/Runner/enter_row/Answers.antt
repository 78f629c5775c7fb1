use Rattle.std.proofs.Common.{refl, subst}
use Rattle.th_meaning.specs.View.{unit_of}
use Rattle.th_control.specs.Config.{purpose_of}
use Rattle.th_acts.specs.Admits.{Admits}
use Rattle.th_acts.proofs.Calling.{row_short, row_entered}
use Rattle.th_acts.proofs.runner.Runner.enter_row.Goals as goal

pub returns-in-None : goal.returns-in-None
returns-in-None c = λ e left now w name h is.
    row_short e left now w name c.args.row c.args.receiver c.args.args.items c.args.self.now.control c.admit.new.self (purpose_of c.args.purpose) is
    (subst (λ o. Admits e (unit_of c.args.row.unit.now) c.args.receiver c.args.args.items o c.admit.new.self left now w) c.in-None.is (c.in_ok-admit.ensures.admits e left now w name h is))

pub returns-in_ok-enter_frame-in-Some : goal.returns-in_ok-enter_frame-in-Some
returns-in_ok-enter_frame-in-Some c = λ e left now w name h is.
    row_entered e left now w name c.args.row c.args.receiver c.args.args.items c.args.self.now.control c.admit.new.self (record c.admit.new.self { control = c.enter_frame.new.control }) c.in-Some.frame
    (purpose_of c.args.purpose) _ is
    (subst (λ o. Admits e (unit_of c.args.row.unit.now) c.args.receiver c.args.args.items o c.admit.new.self left now w) c.in-Some.is (c.in_ok-admit.ensures.admits e left now w name h is))
    c.in_ok-admit.ensures.control refl refl refl refl c.in_ok-enter_frame-in-Some.ensures
