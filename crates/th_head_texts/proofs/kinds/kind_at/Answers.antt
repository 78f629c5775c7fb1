use Rattle.std.proofs.Common.{sym}
use Rattle.th_head_texts.proofs.Heads.{first_at, none_at}
use Rattle.th_head_texts.proofs.kinds.kind_at.Goals as goal

pub returns-in-None : goal.returns-in-None
returns-in-None c = none_at c.args.tokens.now.list c.args.k (sym c.in-None.ensures)

pub returns-in-Some : goal.returns-in-Some
returns-in-Some c = first_at c.args.tokens.now.list c.args.k c.in-Some.token.now (sym c.in-Some.ensures)
