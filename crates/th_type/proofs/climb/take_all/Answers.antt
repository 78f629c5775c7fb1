use Rattle.std.proofs.Common.{refl}
use Rattle.th_type.proofs.Pooled.{all_fit_grown, grows_on}
use Rattle.th_type.proofs.Held.{took_in, clash_in}
use Rattle.th_type.proofs.Climbing.{took_if, clash_if}
use Rattle.th_type.proofs.climb.take_all.Goals as goal

pub take-requires-clause-fit : goal.take-requires-clause-fit
take-requires-clause-fit c = all_fit_grown c.args.pool.now c.loop-member.pool c.args.args.now c.loop-member.invariant.grows c.requires.fit

pub returns-then-not-branch-clause-took : goal.returns-then-not-branch-clause-took
returns-then-not-branch-clause-took c =
    clash_in c.args.pool.now c.loop-member.pool c.args.above.now c.loop-member.above c.args.args.now c.args.members.now c.loop-member.member-index c.member-item.result c.requires.fit c.loop-member.invariant.grows c.loop-member-test.true c.member-item.is c.loop-member.invariant.took
    (clash_if _ _ _ c.in_ok-take.ensures.took c.if-not-branch.true)

pub loop-member-preserved : goal.loop-member-preserved
loop-member-preserved c = record {
  grows = grows_on c.args.pool.now c.loop-member.pool c.take.new.pool c.loop-member.invariant.grows c.in_ok-take.ensures.grown;
  took =
      took_in c.args.pool.now c.loop-member.pool c.take.new.pool c.args.above.now c.loop-member.above c.take.new.above c.args.args.now c.args.members.now c.loop-member.member-index c.member-item.result c.requires.fit c.loop-member.invariant.grows c.loop-member-test.true c.member-item.is c.loop-member.invariant.took
      (took_if _ _ _ c.in_ok-take.ensures.took c.if-not-branch.false);
}
