use Rattle.std.proofs.Common.{refl}
use Rattle.th_offsets.proofs.Pushed.{homed_push, one_more, within_rows}
use Rattle.th_offsets.proofs.slots.all_offsets.Goals as goal

pub offsets_of-requires-clause-within : goal.offsets_of-requires-clause-within
offsets_of-requires-clause-within c = within_rows c.args.rows.now c.requires.ordered c.args.spots.now c.loop-number.number _ c.index-spots-number.result c.deref.result.now c.loop-number-test.true
    c.requires.spots.0 c.requires.spots.1 refl c.deref.ensures.value

pub loop-number-preserved : goal.loop-number-preserved
loop-number-preserved c = record {
  many = one_more c.loop-number.all.items c.push.new.self.items _ c.loop-number.number c.loop-number.invariant.many c.in_ok-push.ensures.items;
  done = homed_push c.args.rows.now c.requires.ordered c.args.spots.now c.loop-number.all.items c.push.new.self.items _ c.loop-number.number _ c.index-spots-number.result c.deref.result.now
      c.loop-number.invariant.many c.loop-number-test.true c.requires.spots.0 c.requires.spots.1 c.loop-number.invariant.done refl c.deref.ensures.value
      c.in_ok-bytes.ensures c.in_ok-push.ensures.items;
}
