use Rattle.std.proofs.Common.{◌≡◌, ◌∙◌, refl, subst, inr, to_z-of_z, w64}
use Rattle.std.specs.Fmt.{signed_decimal}
use Rattle.std.specs.String.{string_bytes}
use Rattle.th_acts.proofs.Bytes.{int_put, int_short, int_part}
use Rattle.th_acts.proofs.Parting.{on_err_of}
use Rattle.th_acts.proofs.runner.Runner.put_int.Goals as goal

pub returns-then-not-spend-clause-done : goal.returns-then-not-spend-clause-done
returns-then-not-spend-clause-done g c = λ e left w h.
    int_short e c.args.self.now (record c.args.self.now { store = c.spend.new.self }) left (g.K.Sink.put_bytes c.args.output.now) w c.args.number c.as_bytes-bytes.result.now h
    (c.as_bytes-bytes.ensures.value ∙ subst (λ z. string_bytes c.in_ok-text.text ≡ signed_decimal z) (to_z-of_z {w = w64} {z = c.args.number} c.ranges.number) c.in_ok-text.ensures)
    (c.if-not-spend.ensures.taken w h.alike) refl refl (c.if-not-spend.ensures.kept refl)

pub returns-in_err-put_all-clause-part : goal.returns-in_err-put_all-clause-part
returns-in_err-put_all-clause-part g c = on_err_of c.from_residual-in_err-put_all.result (λ e left w h.
    inr (int_part e c.args.self.now (record c.args.self.now { store = c.spend.new.self }) left (g.K.Sink.put_bytes c.args.output.now) w c.args.number c.as_bytes-bytes.result.now c.in_err-put_all.ensures.part.0
    (g.K.Sink.put_bytes c.put_all.new.output) h
    (c.as_bytes-bytes.ensures.value ∙ subst (λ z. string_bytes c.in_ok-text.text ≡ signed_decimal z) (to_z-of_z {w = w64} {z = c.args.number} c.ranges.number) c.in_ok-text.ensures)
    (c.if-not-spend.ensures.taken w h.alike) refl refl c.spend.ensures.objects c.in_err-put_all.ensures.part.1))

pub returns-clause-done : goal.returns-clause-done
returns-clause-done g c = λ e left w h.
    int_put e c.args.self.now (record c.args.self.now { store = c.spend.new.self }) left (g.K.Sink.put_bytes c.args.output.now) w c.args.number c.as_bytes-bytes.result.now (g.K.Sink.put_bytes c.put_all.new.output) h
    (c.as_bytes-bytes.ensures.value ∙ subst (λ z. string_bytes c.in_ok-text.text ≡ signed_decimal z) (to_z-of_z {w = w64} {z = c.args.number} c.ranges.number) c.in_ok-text.ensures)
    (c.if-not-spend.ensures.taken w h.alike) refl refl refl c.spend.ensures.objects c.in_ok-put_all.ensures.done
