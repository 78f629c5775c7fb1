use Rattle.std.proofs.Common.{sym, ◌∙◌, arith}
use Rattle.th_lex.proofs.ByLength.{reserved_by_length, word_lengths, no_word}
use Rattle.th_lex.proofs.words.reserved.Goals as goal

pub returns-in-2 : goal.returns-in-2
returns-in-2 c = c.of_two_letters.ensures ∙ sym (reserved_by_length 2 _ c.in-2.is)

pub returns-in-3 : goal.returns-in-3
returns-in-3 c = c.of_three_letters.ensures ∙ sym (reserved_by_length 3 _ c.in-3.is)

pub returns-in-4 : goal.returns-in-4
returns-in-4 c = c.of_four_letters.ensures ∙ sym (reserved_by_length 4 _ c.in-4.is)

pub returns-in-5 : goal.returns-in-5
returns-in-5 c = c.of_five_letters.ensures ∙ sym (reserved_by_length 5 _ c.in-5.is)

pub returns-in-6 : goal.returns-in-6
returns-in-6 c = c.of_six_letters.ensures ∙ sym (reserved_by_length 6 _ c.in-6.is)

pub returns-in-7 : goal.returns-in-7
returns-in-7 c = c.of_seven_letters.ensures ∙ sym (reserved_by_length 7 _ c.in-7.is)

pub returns-in-8 : goal.returns-in-8
returns-in-8 c = c.of_eight_letters.ensures ∙ sym (reserved_by_length 8 _ c.in-8.is)

pub returns-in-9 : goal.returns-in-9
returns-in-9 c = c.of_nine_letters.ensures ∙ sym (reserved_by_length 9 _ c.in-9.is)

pub returns-in-10 : goal.returns-in-10
returns-in-10 c = c.of_ten_letters.ensures ∙ sym (reserved_by_length 10 _ c.in-10.is)

pub returns-in-11 : goal.returns-in-11
returns-in-11 c = c.of_eleven_letters.ensures ∙ sym (reserved_by_length 11 _ c.in-11.is)

pub returns-in-12 : goal.returns-in-12
returns-in-12 c = c.of_twelve_letters.ensures ∙ sym (reserved_by_length 12 _ c.in-12.is)

pub returns-in_default : goal.returns-in_default
returns-in_default c = sym (no_word _ (λ w e. let k = word_lengths w in omega (arith, k.0, k.1)))
