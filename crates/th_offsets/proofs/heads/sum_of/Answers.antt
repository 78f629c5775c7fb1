use Rattle.std.proofs.Common.{◌<◌, length, get_or, arith, ap, ◌∙◌, sym}
use Rattle.std.specs.Prelude.{nat_eq}
use Rattle.th_offsets.proofs.Summing.{super_at, sum_step, sum_end}
use Rattle.th_offsets.proofs.heads.sum_of.Goals as goal

pub bounds-done-s : goal.bounds-done-s
bounds-done-s c = let k : get_or c.as_slice-supers.result.now c.loop-s.s-index 0 < c.args.number =
    super_at c.args.rows.now c.requires.ordered c.args.number c.loop-s.s-index c.as_slice-supers.result.now c.loop-s.invariant.same c.loop-s-test.true in omega arith

pub loop-s-preserved : goal.loop-s-preserved
loop-s-preserved c = record {
  same = c.loop-s.invariant.same;
  small = omega arith;
  sofar = sum_step c.args.rows.now c.requires.ordered c.args.done.now c.args.number c.loop-s.s-index c.as_slice-supers.result.now c.loop-s.total c.capped-total.result _
      c.requires.before c.requires.done c.loop-s.invariant.same c.loop-s-test.true c.loop-s.invariant.small c.capped-total.ensures c.loop-s.invariant.sofar;
}

pub returns-else-is_empty : goal.returns-else-is_empty
returns-else-is_empty c = sum_end c.args.rows.now c.requires.ordered c.args.number c.loop-s.s-index c.as_slice-supers.result.now c.loop-s.total c.loop-s.invariant.same c.loop-s-test.false
    c.loop-s.invariant.small (sym c.is_empty.ensures ∙ c.if-is_empty.false) c.loop-s.invariant.sofar
