use Rattle.th_top.proofs.RaisedNames.{named}
use Rattle.th_top.proofs.run.execute.Goals as goal

pub verdict_of_run-requires : goal.verdict_of_run-requires
verdict_of_run-requires g c = named _ c.args.machine c.run-outcome.new.self _ _ _ _ _ c.run-outcome.result _ _ _ _ _ c.requires c.run-outcome.ensures.ran
