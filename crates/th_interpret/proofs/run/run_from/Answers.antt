use Rattle.th_acts.proofs.Parting.{on_err_of}
use Rattle.th_interpret.proofs.Going.{before_first}
use Rattle.th_interpret.proofs.run.run_from.Goals as goal

pub returns-in_err-first-clause-part : goal.returns-in_err-first-clause-part
returns-in_err-first-clause-part g c = on_err_of c.from_residual.result (λ e turns room begins first.
    before_first e turns room c.args.run.now (g.S.Source.left c.args.input.now) (g.K.Sink.put_bytes c.args.output.now) _ begins)
