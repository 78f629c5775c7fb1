use Rattle.std.proofs.Common.{refl}
use Rattle.th_store.specs.Charges.{with_left}
use Rattle.th_acts.proofs.Acts.{stands_left}
use Rattle.th_acts.proofs.Charging.{leads_at, yield_short}
use Rattle.th_acts.proofs.runner.Runner.yields.Goals as goal

pub returns-in-Some : goal.returns-in-Some
returns-in-Some c = λ e left now w h.
    let r = record c.args.self.now { store = c.charge.new.self } in
    leads_at e r left now c.lacks.result _ _ (yield_short w (with_left c.charge.new.self w) c.args.value c.args.self.now.control c.in-Some.short (c.in-Some.ensures.taken w h.alike))
    (c.lacks.ensures e r left now (with_left c.charge.new.self w) (stands_left e c.args.self.now r left now w h refl refl c.charge.ensures.objects))
