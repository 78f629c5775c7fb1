use Rattle.th_offsets.proofs.Spotting.{spotted_push, spots_many}
use Rattle.th_offsets.proofs.views.all_spots.Goals as goal

pub loop-number-preserved : goal.loop-number-preserved
loop-number-preserved c = record {
  many = spots_many c.loop-number.all.items c.push.new.self.items _ c.loop-number.number c.loop-number.invariant.many c.in_ok-push.ensures.items;
  done = spotted_push c.args.rows.now c.loop-number.all.items c.push.new.self.items _ c.loop-number.number c.loop-number.invariant.many c.loop-number.invariant.done
      c.in_ok-list.ensures c.in_ok-push.ensures.items;
}
