use Rattle.std.proofs.Common.{drop}
use Rattle.th_syntax.proofs.Tables.{Numbering}
use Rattle.th_syntax.proofs.numbering.lexemes.Given as goal

abbrev pub invariant-loop-k : goal.invariant-loop-k
invariant-loop-k l = Numbering l.fn.names l.tokens.text (drop l.from l.tokens.list) (drop l.k l.tokens.list) l.names l.found.items
