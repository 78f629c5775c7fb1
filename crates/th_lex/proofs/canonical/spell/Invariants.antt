use Rattle.std.proofs.Common.{◌≡◌, take}
use Rattle.th_lex.specs.Canonical.{canonical}
use Rattle.th_lex.proofs.canonical.spell.Given as goal

abbrev pub invariant-loop-k : goal.invariant-loop-k
invariant-loop-k l = l.text.items ≡ canonical l.tokens.text (take l.k l.tokens.list)
