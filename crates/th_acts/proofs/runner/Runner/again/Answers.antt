use Rattle.std.proofs.Common.{refl}
use Rattle.th_control.specs.declared.control.Now.TheVariants.{Body}
use Rattle.th_store.specs.Charges.{with_left}
use Rattle.th_frames.proofs.Opening.{waits}
use Rattle.th_acts.specs.declared.runner.Next.TheVariants.{Go}
use Rattle.th_acts.proofs.Acts.{stands_left, goes_on}
use Rattle.th_acts.proofs.Calling.{turn_taken}
use Rattle.th_acts.proofs.runner.Runner.again.Goals as goal

pub returns : goal.returns
returns c = λ e left now w h.
    let r = record c.args.self.now { store = c.spend.new.self; control = c.wait_again.new.control } in
    let v = with_left c.spend.new.self w in
    turn_taken e left now w c.args.self.now.control r v (Go (Body c.args.body)) _ (c.if-not-spend.ensures.taken w h.alike)
    (goes_on e r left now v (Body c.args.body) _ (stands_left e c.args.self.now r left now w h refl refl c.spend.ensures.objects)
    (waits c.args.self.now.control c.wait_again.new.control c.args.test c.args.body c.in_ok-wait_again.ensures v))
