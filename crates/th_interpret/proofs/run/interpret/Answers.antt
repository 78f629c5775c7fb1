use Rattle.th_meaning.specs.View.{program_of}
use Rattle.th_acts.proofs.Parting.{on_err_of}
use Rattle.th_interpret.proofs.Ending.{shown_nothing}
use Rattle.th_interpret.proofs.run.interpret.Goals as goal

pub returns-in_err-tables-clause-part : goal.returns-in_err-tables-clause-part
returns-in_err-tables-clause-part g c = on_err_of c.from_residual.result
    (shown_nothing (program_of c.args.modules.now) (g.K.Sink.put_bytes c.args.output.now) c.args.turns c.args.room (g.S.Source.left c.args.input.now))
