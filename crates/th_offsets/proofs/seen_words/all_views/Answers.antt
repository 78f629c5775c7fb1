use Rattle.std.proofs.Common.{length, ap, ◌∙◌}
use Rattle.th_offsets.proofs.Pushed.{one_more}
use Rattle.th_offsets.proofs.Viewing.{viewed_is, words_at, words_push, within_seen}
use Rattle.th_offsets.proofs.seen_words.all_views.Goals as goal

pub views_of-requires : goal.views_of-requires
views_of-requires c = within_seen (record { types = c.args.types.now; classes = c.args.classes.now }) c.loop-number.number c.deref.result.now c.requires.ordered c.requires.typed
    (viewed_is (record { types = c.args.types.now; classes = c.args.classes.now }) c.args.seen.now c.loop-number.number c.index-seen-number.result c.deref.result.now c.requires.seen.0 c.loop-number-test.true c.requires.seen.1 c.deref.ensures.value)

pub loop-number-preserved : goal.loop-number-preserved
loop-number-preserved c = record {
  many = one_more c.loop-number.all.items c.push.new.self.items _ c.loop-number.number c.loop-number.invariant.many c.in_ok-push.ensures.items;
  done = words_push (record { types = c.args.types.now; classes = c.args.classes.now }) c.loop-number.all.items c.push.new.self.items _ c.loop-number.number c.deref.result.now _ c.loop-number.invariant.many c.loop-number.invariant.done
      (viewed_is (record { types = c.args.types.now; classes = c.args.classes.now }) c.args.seen.now c.loop-number.number c.index-seen-number.result c.deref.result.now c.requires.seen.0 c.loop-number-test.true c.requires.seen.1 c.deref.ensures.value)
      (words_at (record { types = c.args.types.now; classes = c.args.classes.now }) c.args.objects.now c.loop-number.number _ c.requires.objects.0 c.loop-number-test.true c.requires.objects.1)
      c.in_ok-at.ensures.0 c.in_ok-at.ensures.1 c.in_ok-push.ensures.items;
}
