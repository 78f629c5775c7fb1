use Rattle.std.proofs.Common.{subst}
use Rattle.th_acts.proofs.Parting.{on_err_of}
use Rattle.th_interpret.proofs.Going.{Reaches, some_more, cut_off, too_long}
use Rattle.th_interpret.proofs.run.go.Goals as goal

pub returns-in_err-next-in-Go-clause-part : goal.returns-in_err-next-in-Go-clause-part
returns-in_err-next-in-Go-clause-part g c = on_err_of c.from_residual.result (λ e m h.
    cut_off e c.loop-count.run (g.S.Source.left c.loop-count.input) (g.K.Sink.put_bytes c.loop-count.output) (g.S.Source.left c.advance.new.input) (g.K.Sink.put_bytes c.advance.new.output) c.in-Go.now m
    (subst (λ n. Reaches e c.loop-count.run (g.S.Source.left c.loop-count.input) (g.K.Sink.put_bytes c.loop-count.output) n m) c.in-Go.is (c.loop-count.invariant e m h))
    (λ x leads. c.in_err-next-in-Go.ensures.part e x leads))

pub loop-count-preserved : goal.loop-count-preserved
loop-count-preserved g c = λ e m h.
    some_more e c.loop-count.run c.advance.new.run (g.S.Source.left c.loop-count.input) (g.K.Sink.put_bytes c.loop-count.output) (g.S.Source.left c.advance.new.input) (g.K.Sink.put_bytes c.advance.new.output) c.in-Go.now
    c.in_ok-next-in-Go.next m (subst (λ n. Reaches e c.loop-count.run (g.S.Source.left c.loop-count.input) (g.K.Sink.put_bytes c.loop-count.output) n m) c.in-Go.is (c.loop-count.invariant e m h))
    (λ x leads. c.in_ok-next-in-Go.ensures.next e x leads)

pub returns-clause-part : goal.returns-clause-part
returns-clause-part g c = λ e m h.
    too_long e c.loop-count.run (g.S.Source.left c.loop-count.input) (g.K.Sink.put_bytes c.loop-count.output) c.loop-count.next m (c.loop-count.invariant e m h)
