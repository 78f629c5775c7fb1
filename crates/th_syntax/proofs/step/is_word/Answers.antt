use Rattle.th_syntax.proofs.Marks.{word_test}
use Rattle.th_syntax.proofs.step.is_word.Goals as goal

pub returns-in-Word : goal.returns-in-Word
returns-in-Word c = rw c.in-Word.is (word_test c.in-Word.next c.args.word c.same_word.result c.same_word.ensures)
