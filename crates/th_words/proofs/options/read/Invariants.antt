use Rattle.std.proofs.Common.{◌≡◌, map, string_bytes, drop}
use Rattle.th_words.specs.Reading.{nothing_read, read}
use Rattle.th_words.proofs.options.read.Given as goal

-- what the words say is what those that follow say of the reading so far
abbrev pub invariant-loop-at : goal.invariant-loop-at
invariant-loop-at l = read (drop l.at (map string_bytes l.words)) l.at l.reading ≡ read (map string_bytes l.words) 0 nothing_read
