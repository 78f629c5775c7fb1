use Rattle.std.proofs.Common.{refl, subst, ap, None}
use Rattle.th_meaning.specs.View.{unit_of}
use Rattle.th_acts.specs.Admits.{LetIn, Admits}
use Rattle.th_acts.proofs.Calling.{first_short, first_entered}
use Rattle.th_acts.proofs.runner.Runner.enter_first_row.Goals as goal

pub returns-in-None : goal.returns-in-None
returns-in-None c = λ e left now w name h rest homes is.
    first_short e left now w name c.args.row c.admit.new.self is
    (subst (λ o. Admits e (unit_of c.args.row.unit.now) None c.new.result.items o c.admit.new.self left now w) c.in-None.is (c.in_ok-admit.ensures.admits e left now w name h is))

pub returns-in_ok-enter_alone-in-Some : goal.returns-in_ok-enter_alone-in-Some
returns-in_ok-enter_alone-in-Some c = λ e left now w name h rest homes is.
    first_entered e left now w name c.args.row c.args.self.now c.admit.new.self (record c.admit.new.self { control = c.enter_alone.new.control }) c.in-Some.frame _ is
    (subst (λ xs. LetIn e (unit_of c.args.row.unit.now) None xs c.in-Some.frame c.admit.new.self left now w) c.new.ensures.items
    (subst (λ o. Admits e (unit_of c.args.row.unit.now) None c.new.result.items o c.admit.new.self left now w) c.in-Some.is (c.in_ok-admit.ensures.admits e left now w name h is)))
    c.in_ok-admit.ensures.control rest homes refl refl refl refl (ap (λ k. k.homes) c.in_ok-enter_alone-in-Some.ensures) (ap (λ k. k.frame) c.in_ok-enter_alone-in-Some.ensures)
    (ap (λ k. k.rest) c.in_ok-enter_alone-in-Some.ensures)
