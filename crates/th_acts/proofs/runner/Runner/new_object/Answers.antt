use Rattle.std.proofs.Common.{refl, sym, ap}
use Rattle.th_meaning.specs.View.{exprs_of}
use Rattle.th_meaning.specs.Weights.{object_weight}
use Rattle.th_steps.specs.Machine.{now_args, new_object_of}
use Rattle.th_store.specs.Charges.{with_left}
use Rattle.th_store.proofs.Charges.{left_alike}
use Rattle.th_acts.proofs.Acts.{stands_left}
use Rattle.th_acts.proofs.Charging.{leads_at, object_short, made_object}
use Rattle.th_acts.proofs.runner.Runner.new_object.Goals as goal

pub returns-in-Some : goal.returns-in-Some
returns-in-Some c = λ e left now w h.
    let r = record c.args.self.now { store = c.charge.new.self } in
    leads_at e r left now c.lacks.result _ _
    (object_short c.args.self.now.control w (with_left c.charge.new.self w) c.args.class.now c.get-weight.result (object_weight e.program c.args.class.now) (exprs_of c.args.args.now) c.in-Some.short
    (c.get-weight.ensures e.program c.args.class.now h.tables.weights (sym (c.number.ensures e.program h.tables.classes))) (c.in-Some.ensures.taken w h.alike))
    (c.lacks.ensures e r left now (with_left c.charge.new.self w) (stands_left e c.args.self.now r left now w h refl refl c.charge.ensures.objects))

pub returns-in_ok-number-in-None : goal.returns-in_ok-number-in-None
returns-in_ok-number-in-None c = λ e left now w h.
    made_object e c.args.self.now (record c.args.self.now { store = c.add.new.self }) left now w c.charge.new.self c.args.class.now c.get-weight.result (object_weight e.program c.args.class.now)
    c.in_ok-number-in-None.number (exprs_of c.args.args.now) c.instance.result _ h
    (c.get-weight.ensures e.program c.args.class.now h.tables.weights (sym (c.number.ensures e.program h.tables.classes))) (c.in-None.ensures.taken w h.alike) c.instance.ensures
    (c.in_ok-number-in-None.ensures (with_left c.charge.new.self w) (left_alike w c.args.self.now.store c.charge.new.self h.alike c.charge.ensures.objects))
    (ap (λ vs. now_args vs (exprs_of c.args.args.now) (new_object_of c.args.class.now c.in_ok-number-in-None.number)) c.new.ensures.items) refl refl refl
