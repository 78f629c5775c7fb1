use Rattle.std.proofs.Common.{refl, ◌∙◌}
use Rattle.th_offsets.proofs.Pushed.{one_more}
use Rattle.th_offsets.proofs.Seeing.{hidden_names, hidden_fits, hidden_push}
use Rattle.th_offsets.proofs.seen.all_hidden_offsets.Goals as goal

pub hidden_offsets-requires : goal.hidden_offsets-requires
hidden_offsets-requires c = hidden_fits (record { types = c.args.types.now; classes = c.args.classes.now }) c.args.raised c.loop-number.number c.as_slice.result.now c.requires.raised c.requires.shallow c.requires.slots
    (hidden_names (record { types = c.args.types.now; classes = c.args.classes.now }) c.args.names.now c.loop-number.number c.index-names-number.result c.as_slice.result.now
    c.requires.names.0 c.loop-number-test.true c.requires.names.1 (c.as_slice.ensures ∙ c.index-names-number.is))

pub loop-number-preserved : goal.loop-number-preserved
loop-number-preserved c = record {
  many = one_more c.loop-number.all.items c.push.new.self.items _ c.loop-number.number c.loop-number.invariant.many c.in_ok-push.ensures.items;
  done = hidden_push (record { types = c.args.types.now; classes = c.args.classes.now }) c.loop-number.all.items c.push.new.self.items _ c.loop-number.number c.args.raised c.as_slice.result.now
      c.loop-number.invariant.many c.loop-number.invariant.done c.requires.raised
      (hidden_names (record { types = c.args.types.now; classes = c.args.classes.now }) c.args.names.now c.loop-number.number c.index-names-number.result c.as_slice.result.now
      c.requires.names.0 c.loop-number-test.true c.requires.names.1 (c.as_slice.ensures ∙ c.index-names-number.is))
      c.in_ok-bytes.ensures c.in_ok-push.ensures.items;
}
