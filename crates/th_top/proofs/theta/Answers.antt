use Rattle.th_top.proofs.Derived.{command_exactly, complete, refused, judged, headline}
use Rattle.th_top.proofs.Ran.{run_complete, run_refused}
use Rattle.th_top.proofs.theta.Goals as goal

pub returns-clause-command : goal.returns-clause-command
returns-clause-command g c = command_exactly _ _ _ _ _ _ c.obey.ensures.answers

pub returns-clause-complete : goal.returns-clause-complete
returns-clause-complete g c = complete _ c.obey.ensures.only _ _ _ _ _ c.obey.ensures.answers

pub returns-clause-refused : goal.returns-clause-refused
returns-clause-refused g c = refused _ c.obey.ensures.only _ _ _ _ _ c.obey.ensures.answers

pub returns-clause-judged : goal.returns-clause-judged
returns-clause-judged g c = judged _ c.obey.ensures.only _ _ _ _ _ c.obey.ensures.answers

pub returns-clause-headline : goal.returns-clause-headline
returns-clause-headline g c = headline _ c.obey.ensures.only _ _ _ _ _ c.obey.ensures.answers

pub returns-clause-run_complete : goal.returns-clause-run_complete
returns-clause-run_complete g c = run_complete _ c.obey.ensures.only _ _ _ _ _ c.obey.ensures.answers

pub returns-clause-run_refused : goal.returns-clause-run_refused
returns-clause-run_refused g c = run_refused _ c.obey.ensures.only _ _ _ _ _ c.obey.ensures.answers
