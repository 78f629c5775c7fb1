use Rattle.std.proofs.Common.{◌<◌, length, get_or, arith}
use Rattle.th_offsets.proofs.Summing.{super_at}
use Rattle.th_offsets.proofs.Depths.{greatest_step, greatest_end}
use Rattle.th_offsets.proofs.counts.greatest_of.Goals as goal

pub bounds-done-s : goal.bounds-done-s
bounds-done-s c = let k : get_or c.as_slice-supers.result.now c.loop-s.s-index 0 < c.args.number =
    super_at c.args.rows.now c.requires.ordered c.args.number c.loop-s.s-index c.as_slice-supers.result.now c.loop-s.invariant.same c.loop-s-test.true in omega arith

pub loop-s-preserved : goal.loop-s-preserved
loop-s-preserved c = record {
  same = c.loop-s.invariant.same;
  sofar = greatest_step c.args.rows.now c.requires.ordered c.args.done.now c.args.number c.loop-s.s-index c.as_slice-supers.result.now c.loop-s.most c.max-most.result _
      c.requires.before c.requires.done c.loop-s.invariant.same c.loop-s-test.true c.max-most.ensures c.loop-s.invariant.sofar;
}

pub returns : goal.returns
returns c = greatest_end c.args.rows.now c.requires.ordered c.args.number c.loop-s.s-index c.as_slice-supers.result.now c.loop-s.most c.loop-s.invariant.same c.loop-s-test.false c.loop-s.invariant.sofar
