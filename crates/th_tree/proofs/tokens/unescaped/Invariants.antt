use Rattle.std.proofs.Common.{◌≡◌, ◌++◌, drop}
use Rattle.th_tree.specs.Literal.{unescaped}
use Rattle.th_tree.proofs.Literal.{goes_on}
use Rattle.th_tree.proofs.tokens.unescaped.Given as goal

abbrev pub invariant-loop-byte : goal.invariant-loop-byte
invariant-loop-byte l = unescaped l.bytes ≡ l.value.items ++ goes_on l.after_backslash (drop l.byte-index l.bytes)
