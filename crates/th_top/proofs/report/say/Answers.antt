use Rattle.std.proofs.Common.{sym, ◌∙◌}
use Rattle.th_top.proofs.Said.{on_err, said_part, said_whole}
use Rattle.th_top.proofs.report.say.Goals as goal

pub returns-then-is_err : goal.returns-then-is_err
returns-then-is_err g c =
    said_part c.args.text.now c.loop-byte.byte-index (g.E.Sink.put_bytes c.args.report.now) (g.E.Sink.put_bytes c.loop-byte.report) (g.E.Sink.put_bytes c.put.new.self) (g.E.Sink.faults c.args.report.now) (g.E.Sink.faults c.loop-byte.report) (g.E.Sink.faults c.put.new.self)
    c.loop-byte.invariant.0 (on_err c.put.result _ (sym c.is_err.ensures.value ∙ c.if-is_err.true) c.put.ensures.not_put) c.loop-byte.invariant.1 (on_err c.put.result _ (sym c.is_err.ensures.value ∙ c.if-is_err.true) c.put.ensures.fault) c.put.ensures.never_falls

pub returns : goal.returns
returns g c =
    said_whole c.args.text.now c.loop-byte.byte-index (g.E.Sink.put_bytes c.args.report.now) (g.E.Sink.put_bytes c.loop-byte.report) (g.E.Sink.faults c.args.report.now) (g.E.Sink.faults c.loop-byte.report)
    c.loop-byte.auto.byte-index-end c.loop-byte-test.false c.loop-byte.invariant.0 c.loop-byte.invariant.1
