use Rattle.th_offsets.proofs.Heading.{bodied_push}
use Rattle.th_offsets.proofs.Pushed.{one_more}
use Rattle.th_offsets.proofs.heads_of.body_heads.Goals as goal

pub loop-number-preserved : goal.loop-number-preserved
loop-number-preserved c = record {
  many = one_more c.loop-number.all.items c.push.new.self.items _ c.loop-number.number c.loop-number.invariant.many c.in_ok-push.ensures.items;
  done = bodied_push (record { types = c.args.types.now; classes = c.args.classes.now }) c.args.lists.now c.loop-number.all.items c.push.new.self.items _ c.loop-number.number c.index-lists-number.result c.deref.result.now
      c.loop-number.invariant.many c.loop-number-test.true c.requires.1 c.loop-number.invariant.done c.deref.ensures.value c.in_ok-of.ensures c.in_ok-push.ensures.items;
}
