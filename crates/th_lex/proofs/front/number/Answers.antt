use Rattle.std.proofs.Common.{sym}
use Rattle.th_lex.proofs.Right.{digits_all, number_stands, number_wide}
use Rattle.th_lex.proofs.front.number.Goals as goal

pub decimal-requires : goal.decimal-requires
decimal-requires c = digits_all _ _ c.digits_len-len.ensures

pub returns-in-Some : goal.returns-in-Some
returns-in-Some c = number_stands _ _ _ c.requires.some c.requires.no_letter c.requires.digit c.digits_len-len.ensures (sym c.in-Some.ensures)

pub returns-in-None : goal.returns-in-None
returns-in-None c = number_wide _ _ c.requires.some c.requires.digit c.digits_len-len.ensures (sym c.in-None.ensures)
