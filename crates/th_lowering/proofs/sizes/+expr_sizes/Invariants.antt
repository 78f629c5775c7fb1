use Rattle.std.proofs.Common.{◌≡◌, ◌+◌, ◌-◌, ◌^◌, min, ◌<◌, ◌≤◌}
use Rattle.th_meaning.specs.View.{exprs_of}
use Rattle.th_meaning.specs.declared.expr.CoreExprList.{size-CoreExprList}
use Rattle.th_lowering.specs.Sizes.{exprs_size}
use Rattle.th_lowering.proofs.sizes.+expr_sizes.Given as goal

abbrev pub invariant-size_of_exprs-loop-rest : goal.invariant-size_of_exprs-loop-rest
invariant-size_of_exprs-loop-rest l = (l.size < 2 ^ 64) × (size-CoreExprList l.rest ≤ size-CoreExprList l.fn.exprs)
    × (min (l.size + exprs_size (exprs_of l.rest)) (2 ^ 64 - 1) ≡ min (exprs_size (exprs_of l.fn.exprs)) (2 ^ 64 - 1))
