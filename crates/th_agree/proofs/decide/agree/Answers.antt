use Rattle.th_meaning.specs.View.{program_of}
use Rattle.th_agree.proofs.decide.agree.Goals as goal

pub returns-in-Ok : goal.returns-in-Ok
returns-in-Ok c = c.answer.ensures (program_of c.args.modules.now) c.in-Ok.ensures
