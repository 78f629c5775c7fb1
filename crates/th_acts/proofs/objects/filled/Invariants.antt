use Rattle.std.proofs.Common.{◌≡◌, replicate}
use Rattle.th_acts.proofs.objects.filled.Given as goal

abbrev pub invariant-loop-k : goal.invariant-loop-k
invariant-loop-k l = l.elements.items ≡ replicate l.k l.fill
