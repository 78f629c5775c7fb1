use Rattle.std.proofs.Common.{◌≡◌, ◌+◌, ◌-◌, ◌^◌, min, ◌<◌, ◌≤◌}
use Rattle.th_meaning.specs.View.{exprs_of}
use Rattle.th_meaning.specs.Counts.{exprs_nodes}
use Rattle.th_meaning.specs.declared.expr.CoreExprList.{size-CoreExprList}
use Rattle.th_meaning.proofs.count_nodes.+expr_nodes.Given as goal

abbrev pub invariant-nodes_of_exprs-loop-rest : goal.invariant-nodes_of_exprs-loop-rest
invariant-nodes_of_exprs-loop-rest l = (l.count < 2 ^ 64) × (size-CoreExprList l.rest ≤ size-CoreExprList l.fn.exprs)
    × (min (l.count + exprs_nodes (exprs_of l.rest)) (2 ^ 64 - 1) ≡ min (exprs_nodes (exprs_of l.fn.exprs)) (2 ^ 64 - 1))
