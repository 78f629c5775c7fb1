use Rattle.std.proofs.Common.{refl}
use Rattle.th_meaning.specs.View.{program_of}
use Rattle.th_acts.proofs.Parting.{on_err_of}
use Rattle.th_interpret.proofs.Going.{begins}
use Rattle.th_interpret.proofs.Ending.{told, answers, shown, shown_whole, shown_part, shown_nothing}
use Rattle.th_interpret.proofs.run.run_whole.Goals as goal

pub returns-in_err-main-clause-part : goal.returns-in_err-main-clause-part
returns-in_err-main-clause-part g c = on_err_of c.from_residual.result (λ turns room s.
    shown_nothing (program_of c.args.modules.now) (g.K.Sink.put_bytes c.args.output.now) turns room (g.S.Source.left c.args.input.now))

pub returns-in_err-over-clause-part : goal.returns-in_err-over-clause-part
returns-in_err-over-clause-part g c = on_err_of c.from_residual-in_err-over.result (λ turns room s.
    shown_part (program_of c.args.modules.now) (g.K.Sink.put_bytes c.args.output.now) (g.S.Source.left c.run_from.new.input) (g.K.Sink.put_bytes c.run_from.new.output) turns room (g.S.Source.left c.args.input.now)
    (λ had there. c.in_err-over.ensures.part (told (program_of c.args.modules.now) had (g.K.Sink.put_bytes c.args.output.now)) turns room
    (begins (program_of c.args.modules.now) had (g.S.Source.left c.args.input.now) (g.K.Sink.put_bytes c.args.output.now) turns room c.args.run s there) (c.in_ok-main.ensures s.tables.units)))

pub returns-in_err-end-clause-part : goal.returns-in_err-end-clause-part
returns-in_err-end-clause-part g c = on_err_of c.from_residual-in_err-end.result (λ turns room s.
    shown_whole (program_of c.args.modules.now) (g.K.Sink.put_bytes c.args.output.now) (g.S.Source.left c.run_from.new.input) (g.K.Sink.put_bytes c.run_from.new.output) turns room c.in_ok-over.over c.run_from.new.run
    (g.S.Source.left c.args.input.now)
    (λ had there. c.in_ok-over.ensures.over (told (program_of c.args.modules.now) had (g.K.Sink.put_bytes c.args.output.now)) turns room
    (begins (program_of c.args.modules.now) had (g.S.Source.left c.args.input.now) (g.K.Sink.put_bytes c.args.output.now) turns room c.args.run s there) (c.in_ok-main.ensures s.tables.units)))

pub returns-clause-answers : goal.returns-clause-answers
returns-clause-answers g c = λ turns room s.
    answers (program_of c.args.modules.now) (g.K.Sink.put_bytes c.args.output.now) (g.S.Source.left c.run_from.new.input) (g.K.Sink.put_bytes c.run_from.new.output) turns room c.in_ok-over.over c.run_from.new.run
    (g.S.Source.left c.args.input.now) c.in_ok-end.end (record { end = c.in_ok-end.end; entered = c.of.result })
    (λ had there. c.in_ok-over.ensures.over (told (program_of c.args.modules.now) had (g.K.Sink.put_bytes c.args.output.now)) turns room
    (begins (program_of c.args.modules.now) had (g.S.Source.left c.args.input.now) (g.K.Sink.put_bytes c.args.output.now) turns room c.args.run s there) (c.in_ok-main.ensures s.tables.units))
    c.in_ok-end.ensures refl c.of.ensures

pub returns-clause-shown : goal.returns-clause-shown
returns-clause-shown g c = λ turns room s.
    shown (program_of c.args.modules.now) (g.K.Sink.put_bytes c.args.output.now) (g.S.Source.left c.run_from.new.input) (g.K.Sink.put_bytes c.run_from.new.output) turns room c.in_ok-over.over c.run_from.new.run
    (g.S.Source.left c.args.input.now)
    (λ had there. c.in_ok-over.ensures.over (told (program_of c.args.modules.now) had (g.K.Sink.put_bytes c.args.output.now)) turns room
    (begins (program_of c.args.modules.now) had (g.S.Source.left c.args.input.now) (g.K.Sink.put_bytes c.args.output.now) turns room c.args.run s there) (c.in_ok-main.ensures s.tables.units))
