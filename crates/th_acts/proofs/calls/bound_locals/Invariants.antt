use Rattle.std.proofs.Common.{◌≡◌, map, take, Some}
use Rattle.th_acts.proofs.calls.bound_locals.Given as goal

abbrev pub invariant-loop-value : goal.invariant-loop-value
invariant-loop-value l = l.locals.items ≡ map Some (take l.value-index l.values)
