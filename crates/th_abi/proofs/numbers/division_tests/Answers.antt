use Rattle.std.proofs.Common.{◌++◌, ap, ◌∙◌, append_assoc}
use Rattle.th_abi.specs.Numbers.{zero_test, overflow_test}
use Rattle.th_abi.proofs.numbers.division_tests.Goals as goal

pub returns-clause-words : goal.returns-clause-words
returns-clause-words c = c.overflow_test.ensures.words ∙ ap (λ l. l ++ overflow_test c.args.x c.args.y) c.zero_test.ensures.words ∙ append_assoc c.args.words.now.items (zero_test c.args.y) (overflow_test c.args.x c.args.y)
