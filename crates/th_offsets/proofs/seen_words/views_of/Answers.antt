use Rattle.th_offsets.proofs.Pushed.{one_more}
use Rattle.th_offsets.proofs.Viewing.{views_push}
use Rattle.th_offsets.proofs.seen_words.views_of.Goals as goal

pub loop-word-preserved : goal.loop-word-preserved
loop-word-preserved c = record {
  many = one_more c.loop-word.all.items c.push.new.self.items _ c.loop-word.word c.loop-word.invariant.many c.in_ok-push.ensures.items;
  done = views_push c.args.types.now c.args.seen.now c.loop-word.all.items c.push.new.self.items _ c.loop-word.word c.loop-word.invariant.many c.loop-word.invariant.done c.in_ok-view.ensures c.in_ok-push.ensures.items;
}
