use Rattle.std.proofs.Common.{◌≡◌, ◌++◌, drop, map}
use Rattle.th_lex.specs.Canonical.{canonical, spelled}
use Rattle.th_head_texts.specs.Heads.{up_to_end}
use Rattle.th_head_texts.specs.Spaced.{spaced}
use Rattle.th_head_texts.proofs.head_text.spelled_from.Given as goal

-- what is written, with the words that are left, is the whole text
abbrev pub invariant-loop-k : goal.invariant-loop-k
invariant-loop-k l = l.text.items ++ spaced l.begun (map (spelled l.tokens.text) (up_to_end (drop l.k l.tokens.list))) ≡ canonical l.tokens.text (up_to_end (drop l.from l.tokens.list))
