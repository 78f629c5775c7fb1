use Rattle.std.proofs.Common.{refl}
use Rattle.th_store.specs.Charges.{with_left}
use Rattle.th_acts.proofs.Acts.{stands_left}
use Rattle.th_acts.proofs.Calling.{turn_taken}
use Rattle.th_acts.proofs.runner.Runner.known_in_turn.Goals as goal

pub returns : goal.returns
returns c = λ e left now w h.
    let r = record c.args.self.now { store = c.spend.new.self } in
    let v = with_left c.spend.new.self w in
    turn_taken e left now w c.args.self.now.control r v c.known.result _ (c.if-not-spend.ensures.taken w h.alike)
    (c.known.ensures e r left now v (stands_left e c.args.self.now r left now w h refl refl c.spend.ensures.objects))
