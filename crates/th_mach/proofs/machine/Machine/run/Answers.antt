use Rattle.std.proofs.Common.{arith}
use Rattle.th_mach.proofs.Joined.{not_yet, over_join, goes_join, used_up, ran_stands, still_stands}
use Rattle.th_mach.proofs.machine.Machine.run.Goals as goal

pub returns-in-Some-clause-ran : goal.returns-in-Some-clause-ran
returns-in-Some-clause-ran g c = over_join c.args.steps c.loop-done._done _ _ _ c.in-Some.outcome c.loop-done.invariant (omega arith) c.in-Some.ensures

pub returns-in-Some-clause-stands : goal.returns-in-Some-clause-stands
returns-in-Some-clause-stands g c = ran_stands 1 _ c.in-Some.outcome _ c.in-Some.ensures.0

pub loop-done-preserved : goal.loop-done-preserved
loop-done-preserved g c = goes_join c.loop-done._done _ _ _ c.loop-done.invariant c.in_default.ensures

pub loop-done-init : goal.loop-done-init
loop-done-init g c = not_yet _

pub returns-clause-ran : goal.returns-clause-ran
returns-clause-ran g c = used_up c.args.steps c.loop-done._done _ _ c.outcome.result (omega arith) c.loop-done.invariant c.outcome.ensures

pub returns-clause-stands : goal.returns-clause-stands
returns-clause-stands g c = still_stands c.loop-done.self.machine.status c.outcome.result c.outcome.ensures
