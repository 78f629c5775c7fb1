use Rattle.std.proofs.Common.{◌≡◌, ◌+◌, ◌-◌, ◌^◌, min, ◌<◌, ◌≤◌}
use Rattle.th_meaning.specs.View.{exprs_of}
use Rattle.th_lowering.specs.Sizes.{count}
use Rattle.th_lowering.proofs.sizes.count_of.Given as goal

abbrev pub invariant-loop-rest : goal.invariant-loop-rest
invariant-loop-rest l = (l.count < 2 ^ 64) × (min (l.count + count (exprs_of l.rest)) (2 ^ 64 - 1) ≡ min (count (exprs_of l.fn.exprs)) (2 ^ 64 - 1))
