use Rattle.std.proofs.Common.{◌≡◌, ◌++◌, drop, false, None, is_some}
use Rattle.std.specs.List.{join_with_byte}
use Rattle.th_head_texts.specs.Heads.{private_words, up_to_end}
use Rattle.th_head_texts.specs.Spaced.{read_by, spaced}
use Rattle.th_head_texts.proofs.head_text.private_from.Given as goal

-- the table is as it was; what is written, with the words that are left, is the whole text
abbrev pub invariant-loop-k : goal.invariant-loop-k
invariant-loop-k l = record {
  names : l.names ≡ l.fn.names;
  text :
      l.text.items ++ spaced (is_some l.before) (private_words (read_by l.fn.names l.reading) l.tokens.text l.after_for l.before (up_to_end (drop l.k l.tokens.list)))
      ≡ join_with_byte 32 (private_words (read_by l.fn.names l.reading) l.tokens.text false None (up_to_end (drop l.from l.tokens.list)));
}
