use Rattle.std.proofs.Common.{length}
use Rattle.th_offsets.proofs.Pushed.{one_more}
use Rattle.th_offsets.proofs.Viewing.{viewed_is, owned_push, within_seen}
use Rattle.th_offsets.proofs.owned.all_owned.Goals as goal

pub offsets_of-requires-clause-within : goal.offsets_of-requires-clause-within
offsets_of-requires-clause-within c = within_seen (record { types = c.args.types.now; classes = c.args.classes.now }) c.loop-number.number c.deref.result.now c.requires.ordered c.requires.typed
    (viewed_is (record { types = c.args.types.now; classes = c.args.classes.now }) c.args.seen.now c.loop-number.number c.index-seen-number.result c.deref.result.now c.requires.seen.0 c.loop-number-test.true c.requires.seen.1 c.deref.ensures.value)

pub loop-number-preserved : goal.loop-number-preserved
loop-number-preserved c = record {
  many = one_more c.loop-number.all.items c.push.new.self.items _ c.loop-number.number c.loop-number.invariant.many c.in_ok-push.ensures.items;
  done = owned_push (record { types = c.args.types.now; classes = c.args.classes.now }) c.loop-number.all.items c.push.new.self.items _ c.loop-number.number c.deref.result.now c.loop-number.invariant.many c.loop-number.invariant.done
      (viewed_is (record { types = c.args.types.now; classes = c.args.classes.now }) c.args.seen.now c.loop-number.number c.index-seen-number.result c.deref.result.now c.requires.seen.0 c.loop-number-test.true c.requires.seen.1 c.deref.ensures.value)
      c.in_ok-bytes.ensures c.in_ok-push.ensures.items;
}
