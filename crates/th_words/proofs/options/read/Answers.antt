use Rattle.std.proofs.Common.{sym, ◌∙◌, ap, map, string_bytes}
use Rattle.th_words.specs.Reading.{with_word}
use Rattle.th_words.proofs.Front.{next_word, read_next, read_stop}
use Rattle.th_words.proofs.options.read.Goals as goal

pub returns-in_err-reading : goal.returns-in_err-reading
returns-in_err-reading c =
    let next = next_word string_bytes c.args.words.now c.loop-at.at c.index-words-at.result c.loop-at-test.true c.index-words-at.is in
    let step = ap (with_word c.loop-at.reading.place c.loop-at.reading c.loop-at.at) (sym c.as_str.ensures.value) ∙ (sym c.with_word.ensures ∙ c.in_err-reading.was) in
    c.from_residual.ensures ∙ (read_stop (map string_bytes c.args.words.now) c.loop-at.at c.loop-at.reading (string_bytes c.index-words-at.result) next step ∙ c.loop-at.invariant)

pub loop-at-preserved : goal.loop-at-preserved
loop-at-preserved c =
    let next = next_word string_bytes c.args.words.now c.loop-at.at c.index-words-at.result c.loop-at-test.true c.index-words-at.is in
    let step = ap (with_word c.loop-at.reading.place c.loop-at.reading c.loop-at.at) (sym c.as_str.ensures.value) ∙ (sym c.with_word.ensures ∙ c.in_ok-reading.was) in
    sym (read_next (map string_bytes c.args.words.now) c.loop-at.at c.loop-at.reading c.in_ok-reading.reading (string_bytes c.index-words-at.result) next step) ∙ c.loop-at.invariant
