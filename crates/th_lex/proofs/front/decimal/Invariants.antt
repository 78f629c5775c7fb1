use Rattle.std.proofs.Common.{◌≡◌, ◌≤◌, drop}
use Rattle.th_tree.specs.Tokens.{value}
use Rattle.th_lex.proofs.front.decimal.Given as goal

abbrev pub invariant-loop-digit : goal.invariant-loop-digit
invariant-loop-digit l = record { small : l.value ≤ 2147483647; same : value 0 l.digits ≡ value l.value (drop l.digit-index l.digits) }
