use Rattle.th_acts.proofs.Acts.{value_not_found}
use Rattle.th_acts.proofs.runner.Runner.field.Goals as goal

pub returns-in-Err : goal.returns-in-Err
returns-in-Err c = λ e left now w h. value_not_found e c.args.self.now left now w c.missed.result _ c.in-Err.miss (c.missed.ensures e c.args.self.now left now w h) (c.in-Err.ensures w h.alike)
