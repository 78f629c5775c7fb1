use Rattle.std.proofs.Common.{arith}
use Rattle.th_head_texts.proofs.Starts.{rising_all}
use Rattle.th_head_texts.proofs.head_tokens.are_in_order.Goals as goal

pub returns : goal.returns
returns c = λ _. rising_all c.args.tokens.now c.loop-k.k (omega arith) c.loop-k.invariant
