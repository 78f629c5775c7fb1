use Rattle.std.proofs.Common.{arith}
use Rattle.th_type.proofs.Pooled.{grows_on}
use Rattle.th_type.proofs.Pooling.{up_fits, up_high, up_numbered}
use Rattle.th_type.proofs.pool.Pool.number_of.Goals as goal

pub number-requires-in-loop-left : goal.number-requires-in-loop-left
number-requires-in-loop-left c = let i = c.loop-left.invariant in up_fits c.args.self.now c.loop-left.self c.args.shapes.now c.loop-left.left c.loop-left.list i.grows c.requires c.loop-left-test.true i.within i.list

pub loop-left-preserved : goal.loop-left-preserved
loop-left-preserved c =
    let i = c.loop-left.invariant in
    record {
      grows = grows_on c.args.self.now c.loop-left.self c.number-in-loop-left.new.self i.grows c.in_ok-longer.ensures.grown;
      list = up_numbered c.args.self.now c.loop-left.self c.number-in-loop-left.new.self c.args.shapes.now c.loop-left.left c.loop-left.list c.in-Some-2.longer i.grows c.requires c.loop-left-test.true i.within i.list (rw c.in-Some-2.is at c.in_ok-longer.ensures.made);
      within = let w = i.within in omega (arith, w);
    }

pub returns-in-None-clause-made : goal.returns-in-None-clause-made
returns-in-None-clause-made c =
    let i = c.loop-left.invariant in
    up_high c.args.self.now c.loop-left.self c.args.shapes.now c.loop-left.left c.loop-left.list i.grows c.requires c.loop-left-test.true i.within i.list (rw c.in-None.is at c.in_ok-longer.ensures.made)
