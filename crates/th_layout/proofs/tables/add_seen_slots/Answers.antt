use Rattle.th_layout.proofs.Running.{seen_next, seen_end, seen_is}
use Rattle.th_offsets.proofs.Viewing.{within_seen}
use Rattle.th_offsets.proofs.Sited.{within_at}
use Rattle.std.proofs.Common.{length, ap, ◌∙◌}
use Rattle.th_layout.proofs.tables.add_seen_slots.Goals as goal

pub add_spot_slots-requires-clause-place : goal.add_spot_slots-requires-clause-place
add_spot_slots-requires-clause-place c = within_at (length c.args.types.now) c.deref-seen.result.now c.loop-spot.spot-index _
    (within_seen (record { types = c.args.types.now; classes = c.args.classes.now }) c.args.class c.deref-seen.result.now c.requires.ordered c.requires.classes.typed
    (seen_is (record { types = c.args.types.now; classes = c.args.classes.now }) c.args.class_side.now c.args.class _ c.deref-seen.result.now c.requires.classes c.requires.within (c.deref-seen.ensures.value ∙ ap (λ z. z.list.items) c.index.ensures)))
    c.loop-spot-test.true

pub loop-spot-preserved : goal.loop-spot-preserved
loop-spot-preserved c = λ o. seen_next (record { types = c.args.types.now; classes = c.args.classes.now }) c.args.class c.args.word c.loop-spot.spot-index c.deref-seen.result.now _ o _ _ _ c.loop-spot-test.true (c.in_ok-add_spot_slots.ensures o) (c.loop-spot.invariant o)

pub returns : goal.returns
returns c = λ o. seen_end (record { types = c.args.types.now; classes = c.args.classes.now }) c.args.class c.args.word c.loop-spot.spot-index c.deref-seen.result.now _ o _ _
    (seen_is (record { types = c.args.types.now; classes = c.args.classes.now }) c.args.class_side.now c.args.class _ c.deref-seen.result.now c.requires.classes c.requires.within (c.deref-seen.ensures.value ∙ ap (λ z. z.list.items) c.index.ensures))
    c.loop-spot-test.false (c.loop-spot.invariant o)
