use Rattle.std.proofs.Common.{refl, ap, ◌∙◌}
use Rattle.th_views.specs.Listed.{first_of}
use Rattle.th_offsets.proofs.Pushed.{cast_push, one_more}
use Rattle.th_offsets.proofs.maps.all_casts.Goals as goal

pub loop-number-preserved : goal.loop-number-preserved
loop-number-preserved c = record {
  many = one_more c.loop-number.all.items c.push.new.self.items _ c.loop-number.number c.loop-number.invariant.many c.in_ok-push.ensures.items;
  done = cast_push c.args.spots.now c.loop-number.all.items c.push.new.self.items _ c.loop-number.number _ c.index-spots-number.result c.loop-number.invariant.many c.loop-number-test.true
      c.loop-number.invariant.done refl (λ q. c.in_ok-words.ensures q ∙ ap (first_of q) c.deref.ensures.value) c.in_ok-push.ensures.items;
}
