use Rattle.std.proofs.Common.{refl, subst, inr}
use Rattle.th_meaning.specs.World.{put_each}
use Rattle.th_store.specs.Charges.{with_left}
use Rattle.th_acts.specs.Puts.{PutsEach}
use Rattle.th_acts.proofs.Acts.{stands_left}
use Rattle.th_acts.proofs.Bytes.{text_put, text_ends, text_part}
use Rattle.th_acts.proofs.Parting.{on_err_of}
use Rattle.th_acts.proofs.runner.Runner.put_text.Goals as goal

pub returns-in_err-put_each-clause-part : goal.returns-in_err-put_each-clause-part
returns-in_err-put_each-clause-part g c = on_err_of c.from_residual.result (λ e left w h.
    let v = with_left c.spend.new.self w in
    inr (text_part e c.args.self.now c.put_each.new.self left (g.K.Sink.put_bytes c.put_each.new.output) w v c.args.bytes.now c.args.self.now.control (c.if-not-spend.ensures.taken w h.alike)
    (c.in_err-put_each.ensures.part e left v
    (stands_left e c.args.self.now (record c.args.self.now { store = c.spend.new.self }) left (g.K.Sink.put_bytes c.args.output.now) w h refl refl c.spend.ensures.objects))))

pub returns-then-branch-clause-done : goal.returns-then-branch-clause-done
returns-then-branch-clause-done g c = λ e left w h.
    let v = with_left c.spend.new.self w in
    text_put e c.args.self.now c.put_each.new.self left (g.K.Sink.put_bytes c.put_each.new.output) w v c.args.bytes.now (c.if-not-spend.ensures.taken w h.alike)
    (subst (λ x. PutsEach e c.put_each.new.self left (g.K.Sink.put_bytes c.put_each.new.output) x (put_each c.args.bytes.now v)) c.if-branch.true
    (c.in_ok-put_each.ensures.done e left v
    (stands_left e c.args.self.now (record c.args.self.now { store = c.spend.new.self }) left (g.K.Sink.put_bytes c.args.output.now) w h refl refl c.spend.ensures.objects)))
    c.put_each.ensures.control

pub returns-else-branch-clause-done : goal.returns-else-branch-clause-done
returns-else-branch-clause-done g c = λ e left w h.
    let v = with_left c.spend.new.self w in
    text_ends e c.args.self.now c.put_each.new.self left (g.K.Sink.put_bytes c.put_each.new.output) w v c.args.bytes.now (c.if-not-spend.ensures.taken w h.alike)
    (subst (λ x. PutsEach e c.put_each.new.self left (g.K.Sink.put_bytes c.put_each.new.output) x (put_each c.args.bytes.now v)) c.if-branch.false
    (c.in_ok-put_each.ensures.done e left v
    (stands_left e c.args.self.now (record c.args.self.now { store = c.spend.new.self }) left (g.K.Sink.put_bytes c.args.output.now) w h refl refl c.spend.ensures.objects)))
