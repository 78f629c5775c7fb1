use Rattle.std.proofs.Common.{◌≡◌, drop}
use Rattle.th_limits.specs.Words.{tokens_counts}
use Rattle.th_limits.specs.Earliest.{earliest}
use Rattle.th_limits.proofs.words.measure_tokens.Given as goal

abbrev pub invariant-loop-k : goal.invariant-loop-k
invariant-loop-k l = earliest l.first (tokens_counts l.text l.tokens.text (drop l.k l.list)) ≡ earliest l.fn.first (tokens_counts l.text l.tokens.text l.list)
