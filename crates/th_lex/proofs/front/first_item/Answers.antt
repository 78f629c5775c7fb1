use Rattle.std.proofs.Common.{sym}
use Rattle.th_lex.proofs.Right.{blank_stands, comment_stands}
use Rattle.th_lex.proofs.front.first_item.Goals as goal

pub returns-then-is_blank : goal.returns-then-is_blank
returns-then-is_blank c = blank_stands _ c.requires (sym c.if-is_blank.ensures)

pub returns-then-first-eq35 : goal.returns-then-first-eq35
returns-then-first-eq35 c = comment_stands _ _ c.requires c.if-first-eq35.true c.comment_len.ensures
