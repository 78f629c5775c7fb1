use Rattle.std.proofs.Common.{◌≡◌, ◌++◌, drop}
use Rattle.th_checked.proofs.modules.head_tokens.Given as goal

abbrev pub invariant-loop-text : goal.invariant-loop-text
invariant-loop-text l = l.done.items ++ drop l.text-index l.tokens ≡ l.tokens
