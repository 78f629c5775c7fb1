use Rattle.std.proofs.Common.{◌≡◌, ◌+◌, ◌-◌, ◌^◌, min, max, ◌<◌, ◌≤◌}
use Rattle.th_meaning.specs.View.{body_of, else_of, whens_of}
use Rattle.th_meaning.specs.Counts.{body_depth, else_depth, whens_depth}
use Rattle.th_meaning.specs.declared.stmt.CoreBody.{size-CoreBody}
use Rattle.th_meaning.specs.declared.stmt.CoreElse.{size-CoreElse}
use Rattle.th_meaning.specs.declared.stmt.CoreWhenList.{size-CoreWhenList}
use Rattle.th_meaning.proofs.count_depth.+stmt_depth.Given as goal

abbrev pub invariant-depth_of_body-loop-rest : goal.invariant-depth_of_body-loop-rest
invariant-depth_of_body-loop-rest l = (l.greatest < 2 ^ 64) × (size-CoreBody l.rest ≤ size-CoreBody l.fn.body)
    × (min (max l.greatest (body_depth (body_of l.rest))) (2 ^ 64 - 1) ≡ min (body_depth (body_of l.fn.body)) (2 ^ 64 - 1))

abbrev pub invariant-depth_of_else-loop-rest : goal.invariant-depth_of_else-loop-rest
invariant-depth_of_else-loop-rest l = (l.greatest < 2 ^ 64) × (size-CoreElse l.rest ≤ size-CoreElse l.fn.rest)
    × (min (max l.greatest (else_depth (else_of l.rest))) (2 ^ 64 - 1) ≡ min (else_depth (else_of l.fn.rest)) (2 ^ 64 - 1))

abbrev pub invariant-depth_of_whens-loop-rest : goal.invariant-depth_of_whens-loop-rest
invariant-depth_of_whens-loop-rest l = (l.greatest < 2 ^ 64) × (size-CoreWhenList l.rest ≤ size-CoreWhenList l.fn.whens)
    × (min (max l.greatest (whens_depth (whens_of l.rest))) (2 ^ 64 - 1) ≡ min (whens_depth (whens_of l.fn.whens)) (2 ^ 64 - 1))
