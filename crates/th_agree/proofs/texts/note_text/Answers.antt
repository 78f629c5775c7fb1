use Rattle.th_agree.specs.Names.{kept}
use Rattle.th_agree.proofs.Entries.{text_more}
use Rattle.th_agree.proofs.texts.note_text.Goals as goal

pub returns : goal.returns
returns c = λ done h.
    text_more done c.args.name.now c.args.text c.args.texts.now c.add_text.new.texts c.text_of-noted.result (kept c.args.least.now) (kept c.clash_texts.result) c.text_of-noted.ensures
    c.in_ok-add_text.ensures c.clash_texts.ensures h
