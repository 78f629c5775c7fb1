use Rattle.std.proofs.Common.{◌∙◌, refl, subst, ◌∷◌, [], get_or, arith}
use Rattle.th_meaning.specs.World.{put_each}
use Rattle.th_acts.specs.Puts.{PutsEach}
use Rattle.th_acts.proofs.Bytes.{put_more, put_ends, put_whole, put_cut}
use Rattle.th_acts.proofs.Parting.{on_err_of}
use Rattle.th_acts.proofs.runner.Runner.put_each.Goals as goal

pub returns-in_err-put_next-clause-part : goal.returns-in_err-put_next-clause-part
returns-in_err-put_next-clause-part g c = on_err_of c.from_residual.result (λ e left w h.
    put_cut e c.loop-byte.self left (g.K.Sink.put_bytes c.loop-byte.output) (g.K.Sink.put_bytes c.put_next.new.output) c.args.bytes.now c.loop-byte.byte-index (put_each c.args.bytes.now w) c.in_err-put_next.ensures.kept
    (c.loop-byte.invariant.1 e left w h))

pub returns-then-not-branch-clause-done : goal.returns-then-not-branch-clause-done
returns-then-not-branch-clause-done g c = λ e left w h.
    let t = c.loop-byte.invariant.1 e left w h in
    put_ends e left c.args.bytes.now c.loop-byte.byte-index (get_or c.args.bytes.now c.loop-byte.byte-index 0) (put_each c.args.bytes.now w) (omega arith) refl c.loop-byte.self c.put_next.new.self
    (g.K.Sink.put_bytes c.loop-byte.output) (g.K.Sink.put_bytes c.put_next.new.output) t
    (subst (λ x. PutsEach e c.put_next.new.self left (g.K.Sink.put_bytes c.put_next.new.output) x (put_each (get_or c.args.bytes.now c.loop-byte.byte-index 0 ∷ []) t.world)) c.if-not-branch.true
    (c.in_ok-put_next.ensures.done e left t.world t.stands))

pub loop-byte-preserved : goal.loop-byte-preserved
loop-byte-preserved g c = (
  c.put_next.ensures.control ∙ c.loop-byte.invariant.0,
  λ e left w h.
      let t = c.loop-byte.invariant.1 e left w h in
      put_more e left c.args.bytes.now c.loop-byte.byte-index (get_or c.args.bytes.now c.loop-byte.byte-index 0) (put_each c.args.bytes.now w) (omega arith) refl c.loop-byte.self c.put_next.new.self
      (g.K.Sink.put_bytes c.loop-byte.output) (g.K.Sink.put_bytes c.put_next.new.output) t
      (subst (λ x. PutsEach e c.put_next.new.self left (g.K.Sink.put_bytes c.put_next.new.output) x (put_each (get_or c.args.bytes.now c.loop-byte.byte-index 0 ∷ []) t.world)) c.if-not-branch.false
      (c.in_ok-put_next.ensures.done e left t.world t.stands)),
)

pub returns-clause-done : goal.returns-clause-done
returns-clause-done g c = λ e left w h.
    put_whole e c.loop-byte.self left (g.K.Sink.put_bytes c.loop-byte.output) c.args.bytes.now c.loop-byte.byte-index (put_each c.args.bytes.now w) (omega arith) (c.loop-byte.invariant.1 e left w h)
