use Rattle.std.proofs.Common.{map}
use Rattle.th_top.proofs.texts.judge.Goals as goal

pub returns-in-Err-clause-stops : goal.returns-in-Err-clause-stops
returns-in-Err-clause-stops c = λ told faults there. c.refused.ensures told faults (map (λ x. x.items) c.args.texts.now) there c.in-Err.ensures.refused c.in-Err.ensures.complete
