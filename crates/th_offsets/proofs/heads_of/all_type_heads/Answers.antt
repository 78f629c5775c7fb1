use Rattle.std.proofs.Common.{refl}
use Rattle.th_offsets.proofs.Heading.{types_push}
use Rattle.th_offsets.proofs.Pushed.{one_more}
use Rattle.th_offsets.proofs.heads_of.all_type_heads.Goals as goal

pub loop-number-preserved : goal.loop-number-preserved
loop-number-preserved c = record {
  many = one_more c.loop-number.all.items c.push.new.self.items _ c.loop-number.number c.loop-number.invariant.many c.in_ok-push.ensures.items;
  done = types_push c.args.types.now c.loop-number.all.items c.push.new.self.items _ c.loop-number.number _ c.index-types-number.result c.as_slice.result.now c.loop-number.invariant.many c.loop-number-test.true
      c.loop-number.invariant.done refl c.as_slice.ensures c.in_ok-of.ensures c.in_ok-push.ensures.items;
}
