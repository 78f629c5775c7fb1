use Rattle.std.proofs.lemmas.Result.{on_err_weaker}
use Rattle.th_meaning.specs.View.{program_of}
use Rattle.th_interpret.proofs.run.run_over.Goals as goal

pub returns-clause-part : goal.returns-clause-part
returns-clause-part g c = on_err_weaker c.run_whole.result (λ part tables. part c.args.turns c.args.room (c.start-run.ensures (program_of c.args.modules.now) tables)) c.run_whole.ensures.part
