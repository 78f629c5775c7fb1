use Rattle.std.proofs.Common.{◌≡◌, ◌<◌, ◌+◌, length, get_or, set, refl, inl, inr, sym, ◌∙◌, subst, ap, arith, true, false, Some}
use Rattle.th_shape.specs.Order.{Leads, up_at}
use Rattle.th_shape.specs.Walk.{Marked, gaps}
use Rattle.th_shape.proofs.Walking.{marked_start, marked_more, leads_more, up_got, set_gaps, climbed_end, climbed_stop, step_first, next_within}
use Rattle.th_shape.proofs.order.climb.Goals as goal

pub bounds-marked-place : goal.bounds-marked-place
bounds-marked-place c = c.loop-next.invariant.within c.in-Some.place c.in-Some.is

pub bounds-marked-place-in-Some : goal.bounds-marked-place-in-Some
bounds-marked-place-in-Some c = c.loop-next.invariant.within c.in-Some.place c.in-Some.is

pub bounds-ups-place : goal.bounds-ups-place
bounds-ups-place c = let a : c.in-Some.place < length c.loop-next.marked = c.loop-next.invariant.within c.in-Some.place c.in-Some.is in let b = c.loop-next.auto.marked in let d = c.requires.many in omega (arith, a, b, d)

pub loop-next-init : goal.loop-next-init
loop-next-init c = record {
  leads = subst (λ p. Leads c.args.ups.now (Some c.args.from) p (Some c.args.from)) (sym c.new-path.ensures.items) refl;
  marked = subst (Marked c.args.marked.now c.args.marked.now) (sym c.new-path.ensures.items) (marked_start c.args.marked.now);
  within = λ y e. let z : c.args.from ≡ y = cc (e) in let a = c.requires.within in let b = c.requires.many in omega (arith, z, a, b);
  first = inl refl;
}

pub loop-next-preserved : goal.loop-next-preserved
loop-next-preserved c =
    let w : c.in-Some.place < length c.loop-next.marked = c.loop-next.invariant.within c.in-Some.place c.in-Some.is in
    let b = c.loop-next.auto.marked in let d = c.requires.many in
    let u : c.in-Some.place < length c.args.ups.now = omega (arith, w, b, d) in
    let m : length c.loop-next.marked ≡ length c.args.ups.now = omega (arith, b, d) in
    record {
      leads = subst (λ o. Leads c.args.ups.now (Some c.args.from) c.push.new.self.items o) (up_got c.args.ups.now c.in-Some.place _ u)
          (subst (λ p. Leads c.args.ups.now (Some c.args.from) p (up_at c.args.ups.now c.in-Some.place)) (sym c.in_ok-push.ensures.items)
          (leads_more c.args.ups.now (Some c.args.from) c.loop-next.path.items c.in-Some.place (subst (Leads c.args.ups.now (Some c.args.from) c.loop-next.path.items) c.in-Some.is c.loop-next.invariant.leads)));
      marked = marked_more c.args.marked.now c.loop-next.marked _ c.loop-next.path.items c.push.new.self.items c.in-Some.place c.loop-next.invariant.marked w c.if-seen.false refl c.in_ok-push.ensures.items;
      within = λ y e. next_within c.args.ups.now c.loop-next.marked c.in-Some.place _ y c.requires.inner u m e;
      first = step_first c.loop-next.marked c.args.from c.in-Some.place c.loop-next.next _ w c.in-Some.is c.loop-next.invariant.first;
    }

pub loop-next-smaller : goal.loop-next-smaller
loop-next-smaller c =
    let g : gaps (set c.loop-next.marked c.in-Some.place true) + 1 ≡ gaps c.loop-next.marked = set_gaps c.loop-next.marked c.in-Some.place (c.loop-next.invariant.within c.in-Some.place c.in-Some.is) c.if-seen.false in omega (arith, g)

pub returns-then-seen : goal.returns-then-seen
returns-then-seen c = climbed_stop c.args.ups.now c.args.marked.now c.loop-next.marked c.args.from c.in-Some.place c.loop-next.path.items c.loop-next.next c.loop-next.invariant.leads c.loop-next.invariant.marked c.loop-next.invariant.first c.in-Some.is c.if-seen.true

pub returns : goal.returns
returns c = climbed_end c.args.ups.now c.args.marked.now c.loop-next.marked c.args.from c.loop-next.path.items c.loop-next.next c.loop-next.invariant.leads c.loop-next.invariant.marked c.loop-next.invariant.first c.in_default.is
