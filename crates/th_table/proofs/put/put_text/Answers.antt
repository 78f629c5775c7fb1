use Rattle.std.proofs.Common.{sym, ◌∙◌}
use Rattle.th_table.proofs.Said.{on_err, said_part, said_whole}
use Rattle.th_table.proofs.put.put_text.Goals as goal

pub returns-then-is_err : goal.returns-then-is_err
returns-then-is_err g c =
    said_part c.args.text.now c.loop-byte.byte-index (g.K.Sink.put_bytes c.args.sink.now) (g.K.Sink.put_bytes c.loop-byte.sink) (g.K.Sink.put_bytes c.put.new.self) (g.K.Sink.faults c.args.sink.now) (g.K.Sink.faults c.loop-byte.sink) (g.K.Sink.faults c.put.new.self)
    c.loop-byte.invariant.0 (on_err c.put.result _ (sym c.is_err.ensures.value ∙ c.if-is_err.true) c.put.ensures.not_put) c.loop-byte.invariant.1 (on_err c.put.result _ (sym c.is_err.ensures.value ∙ c.if-is_err.true) c.put.ensures.fault)

pub returns : goal.returns
returns g c =
    said_whole c.args.text.now c.loop-byte.byte-index (g.K.Sink.put_bytes c.args.sink.now) (g.K.Sink.put_bytes c.loop-byte.sink) (g.K.Sink.faults c.args.sink.now) (g.K.Sink.faults c.loop-byte.sink)
    c.loop-byte.auto.byte-index-end c.loop-byte-test.false c.loop-byte.invariant.0 c.loop-byte.invariant.1
