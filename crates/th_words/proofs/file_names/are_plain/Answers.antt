use Rattle.std.proofs.Common.{sym, ◌∙◌, ap, map, string_bytes}
use Rattle.th_words.specs.Words.{is_dashed}
use Rattle.th_words.proofs.Front.{next_word, plain_next, plain_stop}
use Rattle.th_words.proofs.file_names.are_plain.Goals as goal

pub returns-then-is_dashed : goal.returns-then-is_dashed
returns-then-is_dashed c =
    let next = next_word string_bytes c.args.words.now c.loop-at.at c.index-words-at.result c.loop-at-test.true c.index-words-at.is in
    let dashed = ap is_dashed (sym c.as_str.ensures.value) ∙ (sym c.is_dashed.ensures ∙ c.if-is_dashed.true) in
    plain_stop (map string_bytes c.args.words.now) c.loop-at.at (string_bytes c.index-words-at.result) next dashed ∙ c.loop-at.invariant

pub loop-at-preserved : goal.loop-at-preserved
loop-at-preserved c =
    let next = next_word string_bytes c.args.words.now c.loop-at.at c.index-words-at.result c.loop-at-test.true c.index-words-at.is in
    let plain = ap is_dashed (sym c.as_str.ensures.value) ∙ (sym c.is_dashed.ensures ∙ c.if-is_dashed.false) in
    sym (plain_next (map string_bytes c.args.words.now) c.loop-at.at (string_bytes c.index-words-at.result) next plain) ∙ c.loop-at.invariant
