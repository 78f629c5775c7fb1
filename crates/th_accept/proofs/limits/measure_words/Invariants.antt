use Rattle.std.proofs.Common.{◌≡◌, drop}
use Rattle.th_limits.specs.Earliest.{earliest}
use Rattle.th_accept.specs.Counts.{words_counts}
use Rattle.th_accept.proofs.limits.measure_words.Given as goal

abbrev pub invariant-loop-k : goal.invariant-loop-k
invariant-loop-k l = earliest l.first (words_counts l.k (drop l.k l.texts)) ≡ earliest l.fn.first (words_counts 0 l.texts)
