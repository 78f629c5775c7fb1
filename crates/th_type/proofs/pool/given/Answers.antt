use Rattle.std.proofs.Common.{sym}
use Rattle.th_type.proofs.Pooled.{fit_at, given_none, given_some}
use Rattle.th_type.proofs.pool.given.Goals as goal

pub returns-in-Some-clause-fits : goal.returns-in-Some-clause-fits
returns-in-Some-clause-fits c ts f = fit_at ts c.args.args.now c.args.place c.in-Some.shape f (sym c.in-Some.ensures)

pub returns-in-Some-clause-is : goal.returns-in-Some-clause-is
returns-in-Some-clause-is c ts = given_some ts c.args.args.now c.args.place c.args.place c.in-Some.shape (sym c.in-Some.ensures)

pub returns-in-None-clause-is : goal.returns-in-None-clause-is
returns-in-None-clause-is c ts = given_none ts c.args.args.now c.args.place c.args.place (sym c.in-None.ensures)
