use Rattle.std.proofs.Common.{◌<◌, arith, refl, sym, ◌∙◌, get_or, false}
use Rattle.th_offsets.proofs.Walked.{supers_at}
use Rattle.th_offsets.proofs.Spotting.{super_before, walk_step, step_fits, lower_fits, list_step, list_end, list_start}
use Rattle.th_offsets.proofs.views.spots_of.Goals as goal

pub bounds-facts-s : goal.bounds-facts-s
bounds-facts-s c = let k : get_or c.as_slice-supers.result.now c.loop-s.s-index 0 < c.args.number = super_before c.args.rows.now c.args.facts.now c.args.done.now c.args.number c.loop-s.s-index c.as_slice-supers.result.now c.loop-s.walk _ (record { span = 0; topped = false; upward = false })
    c.requires.ordered c.requires.known c.requires.all c.requires.done c.requires.before c.requires.within c.loop-s.invariant.same c.loop-s-test.true c.loop-s.invariant.sofar in omega arith

pub bounds-done-s : goal.bounds-done-s
bounds-done-s c = let k : get_or c.as_slice-supers.result.now c.loop-s.s-index 0 < c.args.number = super_before c.args.rows.now c.args.facts.now c.args.done.now c.args.number c.loop-s.s-index c.as_slice-supers.result.now c.loop-s.walk _ (record { span = 0; topped = false; upward = false })
    c.requires.ordered c.requires.known c.requires.all c.requires.done c.requires.before c.requires.within c.loop-s.invariant.same c.loop-s-test.true c.loop-s.invariant.sofar in omega arith

pub loop-s-init : goal.loop-s-init
loop-s-init c = record {
  same = c.as_slice-supers.ensures ∙ sym (supers_at c.args.rows.now c.args.number c.index-rows-number.result c.requires.within);
  sofar = refl;
  list = list_start c.new-list.result.items c.push.new.self.items _ _ c.new-list.ensures.items c.in_ok-push.ensures.items;
}

pub lower_onto-requires : goal.lower_onto-requires
lower_onto-requires c = lower_fits c.args.rows.now c.args.facts.now c.args.done.now c.args.number c.loop-s.s-index c.as_slice-supers.result.now c.loop-s.walk _ (record { span = 0; topped = false; upward = false })
    c.requires.ordered c.requires.known c.requires.all c.requires.done c.requires.before c.requires.within c.loop-s.invariant.same c.loop-s-test.true c.loop-s.invariant.sofar
    c.requires.few refl c.low_of.result _ c.low_of.ensures c.index-done-s.result c.deref.result.now c.deref.ensures.value

pub step-walk-requires : goal.step-walk-requires
step-walk-requires c = step_fits c.args.rows.now c.args.facts.now c.args.done.now c.args.number c.loop-s.s-index c.as_slice-supers.result.now c.loop-s.walk _ (record { span = 0; topped = false; upward = false })
    c.requires.ordered c.requires.known c.requires.all c.requires.done c.requires.before c.requires.within c.loop-s.invariant.same c.loop-s-test.true c.loop-s.invariant.sofar
    c.requires.few refl

pub loop-s-preserved : goal.loop-s-preserved
loop-s-preserved c = record {
  same = c.loop-s.invariant.same;
  sofar = walk_step c.args.rows.now c.args.facts.now c.args.done.now c.args.number c.loop-s.s-index c.as_slice-supers.result.now c.loop-s.walk _ (record { span = 0; topped = false; upward = false })
      c.requires.ordered c.requires.known c.requires.all c.requires.done c.requires.before c.requires.within c.loop-s.invariant.same c.loop-s-test.true c.loop-s.invariant.sofar
      c.step-walk.result c.step-walk.ensures;
  list = list_step c.args.rows.now c.args.facts.now c.args.done.now c.args.number c.loop-s.s-index c.as_slice-supers.result.now c.loop-s.walk _ (record { span = 0; topped = false; upward = false })
      c.requires.ordered c.requires.known c.requires.all c.requires.done c.requires.before c.requires.within c.loop-s.invariant.same c.loop-s-test.true c.loop-s.invariant.sofar
      c.loop-s.list.items c.lower_onto.new.into.items _ c.index-done-s.result c.deref.result.now c.low_of.result c.step-walk.result
      c.loop-s.invariant.list c.deref.ensures.value c.low_of.ensures c.in_ok-lower_onto.ensures c.step-walk.ensures;
}

pub returns : goal.returns
returns c = list_end c.args.rows.now c.args.number c.requires.ordered c.loop-s.walk c.loop-s.s-index c.as_slice-supers.result.now c.loop-s.list.items c.loop-s.invariant.same c.loop-s-test.false c.loop-s.invariant.list
