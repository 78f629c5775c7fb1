use Rattle.std.proofs.Common.{◌≡◌, ◌++◌, map, replicate, Some, None}
use Rattle.th_acts.proofs.calls.locals_of.Given as goal

abbrev pub invariant-loop-k : goal.invariant-loop-k
invariant-loop-k l = l.locals.items ≡ map Some l.fn.args.items ++ replicate l.k None
