use Rattle.std.proofs.Common.{refl, arith}
use Rattle.th_store.specs.Charges.{with_left}
use Rattle.th_acts.proofs.Acts.{stands_left}
use Rattle.th_acts.proofs.Charging.{leads_at, join_short}
use Rattle.th_acts.proofs.runner.Runner.join.Goals as goal

pub returns-in-Some : goal.returns-in-Some
returns-in-Some c = λ e left now w h.
    let r = record c.args.self.now { store = c.charge.new.self } in
    leads_at e r left now c.lacks.result _ _
    (join_short c.args.self.now.control c.args.a.now c.args.b.now w _ (omega arith) (with_left c.charge.new.self w) c.in-Some.short c.if-size-gt2147483647.false (c.in-Some.ensures.taken w h.alike))
    (c.lacks.ensures e r left now (with_left c.charge.new.self w) (stands_left e c.args.self.now r left now w h refl refl c.charge.ensures.objects))
