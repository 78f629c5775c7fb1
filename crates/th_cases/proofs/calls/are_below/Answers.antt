use Rattle.th_cases.proofs.Below.{below_more, below_all}
use Rattle.th_cases.proofs.calls.are_below.Goals as goal

pub loop-clause-preserved : goal.loop-clause-preserved
loop-clause-preserved c = below_more c.args.clauses.now c.loop-clause.clause-index c.args.count c.clause-item.result c.loop-clause-test.true c.clause-item.is c.if-clause-count.false c.loop-clause.invariant

pub returns : goal.returns
returns c = λ _. below_all c.args.clauses.now c.loop-clause.clause-index c.args.count c.loop-clause-test.false c.loop-clause.invariant
