use Rattle.th_acts.proofs.Acts.{number_not_found}
use Rattle.th_acts.proofs.runner.Runner.length.Goals as goal

pub returns-in-Err : goal.returns-in-Err
returns-in-Err c = λ e left now w h. number_not_found e c.args.self.now left now w c.missed.result _ c.in-Err.miss (c.missed.ensures e c.args.self.now left now w h) (c.in-Err.ensures.found w h.alike)
