use Rattle.std.proofs.Common.{◌≡◌, ◌-◌, ◌^◌, min, max, ◌<◌, ◌≤◌}
use Rattle.th_meaning.specs.View.{exprs_of}
use Rattle.th_meaning.specs.Counts.{exprs_depth}
use Rattle.th_meaning.specs.declared.expr.CoreExprList.{size-CoreExprList}
use Rattle.th_meaning.proofs.count_depth.+expr_depth.Given as goal

abbrev pub invariant-depth_of_exprs-loop-rest : goal.invariant-depth_of_exprs-loop-rest
invariant-depth_of_exprs-loop-rest l = (l.greatest < 2 ^ 64) × (l.place < 2 ^ 64) × (size-CoreExprList l.rest ≤ size-CoreExprList l.fn.exprs)
    × (min (max l.greatest (exprs_depth l.place (exprs_of l.rest))) (2 ^ 64 - 1) ≡ min (exprs_depth l.fn.first (exprs_of l.fn.exprs)) (2 ^ 64 - 1))
