use Rattle.std.proofs.Common.{length}
use Rattle.th_offsets.proofs.Sited.{within_at}
use Rattle.th_offsets.proofs.seen_words.numbers_at.Goals as goal

pub number_at-requires : goal.number_at-requires
number_at-requires c = within_at (length c.args.types.now) c.args.seen.now c.loop-spot.spot-index _ c.requires c.loop-spot-test.true
