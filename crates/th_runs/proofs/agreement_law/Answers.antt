use Rattle.th_runs.proofs.Agrees.{agrees}
use Rattle.th_runs.proofs.agreement_law.Goals as goal

pub returns : goal.returns
returns g c = record { agrees = agrees g.T.Simulates.simulation }
