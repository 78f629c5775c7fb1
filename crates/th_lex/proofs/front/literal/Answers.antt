use Rattle.std.proofs.Common.{sym, rules}
use Rattle.th_lex.proofs.Quotes.{literal_stands, literal_bad}
use Rattle.th_lex.proofs.front.literal.Goals as goal

pub overflow_add-result : goal.overflow_add-result
overflow_add-result c = let k = (literal_stands _ _ c.requires.some c.requires.quote (sym c.in-Some.ensures)).0 in search rules

pub returns-in-Some : goal.returns-in-Some
returns-in-Some c = literal_stands _ _ c.requires.some c.requires.quote (sym c.in-Some.ensures)

pub returns-in-None : goal.returns-in-None
returns-in-None c = literal_bad _ c.requires.some c.requires.quote (sym c.in-None.ensures)
