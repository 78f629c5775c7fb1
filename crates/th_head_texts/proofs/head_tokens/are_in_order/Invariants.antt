use Rattle.th_head_texts.proofs.Starts.{Rising}
use Rattle.th_head_texts.proofs.head_tokens.are_in_order.Given as goal

abbrev pub invariant-loop-k : goal.invariant-loop-k
invariant-loop-k l = Rising l.tokens l.k
