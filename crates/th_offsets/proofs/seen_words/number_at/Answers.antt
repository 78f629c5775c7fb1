use Rattle.th_offsets.proofs.Viewing.{number_is}
use Rattle.th_offsets.proofs.seen_words.number_at.Goals as goal

pub returns : goal.returns
returns c = number_is c.args.types.now c.args.place _ c.requires
