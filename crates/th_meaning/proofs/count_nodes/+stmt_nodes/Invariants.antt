use Rattle.std.proofs.Common.{◌≡◌, ◌+◌, ◌-◌, ◌^◌, min, ◌<◌, ◌≤◌}
use Rattle.th_meaning.specs.View.{body_of, else_of, whens_of}
use Rattle.th_meaning.specs.Counts.{body_nodes, else_nodes, whens_nodes}
use Rattle.th_meaning.specs.declared.stmt.CoreBody.{size-CoreBody}
use Rattle.th_meaning.specs.declared.stmt.CoreElse.{size-CoreElse}
use Rattle.th_meaning.specs.declared.stmt.CoreWhenList.{size-CoreWhenList}
use Rattle.th_meaning.proofs.count_nodes.+stmt_nodes.Given as goal

abbrev pub invariant-nodes_of_body-loop-rest : goal.invariant-nodes_of_body-loop-rest
invariant-nodes_of_body-loop-rest l = (l.count < 2 ^ 64) × (size-CoreBody l.rest ≤ size-CoreBody l.fn.body)
    × (min (l.count + body_nodes (body_of l.rest)) (2 ^ 64 - 1) ≡ min (body_nodes (body_of l.fn.body)) (2 ^ 64 - 1))

abbrev pub invariant-nodes_of_else-loop-rest : goal.invariant-nodes_of_else-loop-rest
invariant-nodes_of_else-loop-rest l = (l.count < 2 ^ 64) × (size-CoreElse l.rest ≤ size-CoreElse l.fn.rest)
    × (min (l.count + else_nodes (else_of l.rest)) (2 ^ 64 - 1) ≡ min (else_nodes (else_of l.fn.rest)) (2 ^ 64 - 1))

abbrev pub invariant-nodes_of_whens-loop-rest : goal.invariant-nodes_of_whens-loop-rest
invariant-nodes_of_whens-loop-rest l = (l.count < 2 ^ 64) × (size-CoreWhenList l.rest ≤ size-CoreWhenList l.fn.whens)
    × (min (l.count + whens_nodes (whens_of l.rest)) (2 ^ 64 - 1) ≡ min (whens_nodes (whens_of l.fn.whens)) (2 ^ 64 - 1))
