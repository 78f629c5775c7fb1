use Rattle.std.proofs.Common.{◌≡◌, map, string_bytes, drop}
use Rattle.th_words.specs.Reading.{are_plain}
use Rattle.th_words.proofs.file_names.are_plain.Given as goal

-- the words are plain where those that follow are
abbrev pub invariant-loop-at : goal.invariant-loop-at
invariant-loop-at l = are_plain (drop l.at (map string_bytes l.words)) ≡ are_plain (map string_bytes l.words)
