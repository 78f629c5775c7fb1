use Rattle.std.proofs.Common.{◌≡◌, ◌++◌, drop}
use Rattle.th_offsets.specs.Known.{numbers_at}
use Rattle.th_offsets.proofs.seen_words.numbers_at.Given as goal

abbrev pub invariant-loop-spot : goal.invariant-loop-spot
invariant-loop-spot l = l.numbers.items ++ numbers_at l.types (drop l.spot-index l.seen) l.word ≡ numbers_at l.types l.seen l.word
