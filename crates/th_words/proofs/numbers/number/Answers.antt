use Rattle.std.proofs.Common.{sym, ◌∙◌, ap, arith}
use Rattle.std.specs.List.{list_all}
use Rattle.std.specs.Char.{is_ascii_digit}
use Rattle.th_words.proofs.Digits.{parsed_number}
use Rattle.th_words.proofs.numbers.number.Goals as goal

pub returns : goal.returns
returns c = c.ok.ensures.value ∙ parsed_number c.args.word.now c.parse.result c.parse.ensures.value.0 (omega arith) (omega arith) (ap (list_all is_ascii_digit) (sym c.as_bytes.ensures.value) ∙ sym c.if-not-is_digits.ensures)
