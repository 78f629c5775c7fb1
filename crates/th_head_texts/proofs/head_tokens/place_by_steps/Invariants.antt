use Rattle.std.proofs.Common.{◌≡◌, drop}
use Rattle.th_head_texts.specs.Heads.{from_byte}
use Rattle.th_head_texts.proofs.head_tokens.place_by_steps.Given as goal

abbrev pub invariant-loop-k : goal.invariant-loop-k
invariant-loop-k l = from_byte l.at l.tokens ≡ from_byte l.at (drop l.k l.tokens)
