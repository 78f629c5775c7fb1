use Rattle.std.proofs.Common.{length, ◌-◌}
use Rattle.th_lex.proofs.Steps.{Done}
use Rattle.th_lex.proofs.lex.Given as goal

abbrev pub invariant-loop-at : goal.invariant-loop-at
invariant-loop-at l = Done l.text l.at l.tokens.items

abbrev pub decreases-loop-at : goal.decreases-loop-at
decreases-loop-at l = length l.text - l.at
