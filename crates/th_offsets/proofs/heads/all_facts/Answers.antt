use Rattle.th_offsets.proofs.heads.all_facts.Goals as goal
use Rattle.th_offsets.proofs.Walked.{done_push, push_many}

pub loop-number-preserved : goal.loop-number-preserved
loop-number-preserved c = record {
  many = push_many c.loop-number.all.items c.push.new.self.items c.facts_of-facts.result c.loop-number.number c.loop-number.invariant.many c.in_ok-push.ensures.items;
  done = done_push c.args.rows.now c.loop-number.all.items c.push.new.self.items c.facts_of-facts.result c.loop-number.number c.loop-number.invariant.many c.loop-number.invariant.done
      c.facts_of-facts.ensures c.in_ok-push.ensures.items;
}
