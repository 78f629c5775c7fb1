use Rattle.th_offsets.proofs.Sited.{within_at}
use Rattle.std.proofs.Common.{length}
use Rattle.th_offsets.proofs.slots.offsets_of.Goals as goal

pub add_own-requires-clause-within : goal.add_own-requires-clause-within
add_own-requires-clause-within c = within_at (length c.args.rows.now) c.args.seen.now c.loop-spot.spot-index _ c.requires.within c.loop-spot-test.true
