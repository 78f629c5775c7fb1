use Rattle.std.proofs.Common.{◌≡◌, ◌+◌, length, sum_by}
use Rattle.th_weights.specs.Sizes.{words_on}
use Rattle.th_weights.proofs.weights.sums_of.Given as goal

abbrev pub invariant-loop-size : goal.invariant-loop-size
invariant-loop-size l = (words_on l.words l.left.items ≡ words_on 0 l.fn.chain.items) × (sum_by (λ s. s.own) l.left.items + l.own ≡ sum_by (λ s. s.own) l.fn.chain.items)

abbrev pub decreases-loop-size : goal.decreases-loop-size
decreases-loop-size l = length l.left.items
