use Rattle.std.proofs.Common.{refl}
use Rattle.th_store.specs.Charges.{with_left}
use Rattle.th_store.proofs.Charges.{left_alike}
use Rattle.th_acts.proofs.Acts.{stands_left}
use Rattle.th_acts.proofs.Charging.{leads_at, array_short, made_array}
use Rattle.th_acts.proofs.runner.Runner.add_array.Goals as goal

pub returns-in-Some : goal.returns-in-Some
returns-in-Some c = λ e left now w h.
    let r = record c.args.self.now { store = c.charge.new.self } in
    leads_at e r left now c.lacks.result _ _ (array_short c.args.self.now.control w (with_left c.charge.new.self w) c.args.fill c.args.size c.in-Some.short (c.in-Some.ensures.taken w h.alike))
    (c.lacks.ensures e r left now (with_left c.charge.new.self w) (stands_left e c.args.self.now r left now w h refl refl c.charge.ensures.objects))

pub returns-in_ok-number-in-None : goal.returns-in_ok-number-in-None
returns-in_ok-number-in-None c = λ e left now w h.
    made_array e c.args.self.now (record c.args.self.now { store = c.add.new.self }) left now w c.charge.new.self c.args.fill c.in_ok-elements-in-None.elements.items c.args.size c.in_ok-number-in-None.number
    c.array.result c.object.result h c.in_ok-elements-in-None.ensures (c.in-None.ensures.taken w h.alike) c.array.ensures
    (c.in_ok-number-in-None.ensures (with_left c.charge.new.self w) (left_alike w c.args.self.now.store c.charge.new.self h.alike c.charge.ensures.objects)) c.object.ensures refl refl refl
