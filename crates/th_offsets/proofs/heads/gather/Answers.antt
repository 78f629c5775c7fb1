use Rattle.std.proofs.Common.{◌<◌, arith, refl, sym, ◌∙◌, subst, get_or}
use Rattle.std.specs.Prelude.{slice_get}
use Rattle.th_views.specs.Graph.{EachLower}
use Rattle.th_views.specs.Rows.{tree_of, supers_in}
use Rattle.th_offsets.proofs.Walked.{lower_at, supers_at, gather_fits, gather_step, gather_end}
use Rattle.th_offsets.proofs.heads.gather.Goals as goal

pub bounds-done-s : goal.bounds-done-s
bounds-done-s c =
    let e : EachLower (λ k. k) c.args.number c.as_slice-supers.result.now = subst (EachLower (λ k. k) c.args.number) (sym c.loop-s.invariant.same) (c.requires.ordered c.args.number) in
    let k : get_or c.as_slice-supers.result.now c.loop-s.s-index 0 < c.args.number = lower_at (λ k. k) c.args.number c.as_slice-supers.result.now c.loop-s.s-index e c.loop-s-test.true in
    omega arith

pub loop-s-init : goal.loop-s-init
loop-s-init c = record { same = c.as_slice-supers.ensures ∙ sym (supers_at c.args.rows.now c.args.number c.index-rows-number.result c.requires.within); sofar = refl }

pub step-walk-requires : goal.step-walk-requires
step-walk-requires c = gather_fits c.args.rows.now c.args.done.now c.args.number c.loop-s.s-index c.as_slice-supers.result.now c.loop-s.walk _ _
    c.requires.ordered c.requires.done c.requires.before c.loop-s.invariant.same c.loop-s-test.true c.loop-s.invariant.sofar c.requires.few refl

pub loop-s-preserved : goal.loop-s-preserved
loop-s-preserved c = record {
  same = c.loop-s.invariant.same;
  sofar = gather_step c.args.rows.now c.args.done.now c.args.number c.loop-s.s-index c.as_slice-supers.result.now c.loop-s.walk _ _
      c.requires.ordered c.requires.done c.requires.before c.loop-s.invariant.same c.loop-s-test.true c.loop-s.invariant.sofar c.step-walk.result c.step-walk.ensures;
}

pub returns : goal.returns
returns c = gather_end (tree_of c.args.rows.now) c.loop-s.walk _ c.loop-s.s-index c.as_slice-supers.result.now (supers_in (slice_get c.args.rows.now c.args.number)) c.loop-s.invariant.same c.loop-s-test.false c.loop-s.invariant.sofar
