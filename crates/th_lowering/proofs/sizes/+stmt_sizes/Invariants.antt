use Rattle.std.proofs.Common.{◌≡◌, ◌+◌, ◌-◌, ◌^◌, min, ◌<◌, ◌≤◌}
use Rattle.th_meaning.specs.View.{body_of, else_of, whens_of}
use Rattle.th_meaning.specs.declared.stmt.CoreBody.{size-CoreBody}
use Rattle.th_meaning.specs.declared.stmt.CoreElse.{size-CoreElse}
use Rattle.th_meaning.specs.declared.stmt.CoreWhenList.{size-CoreWhenList}
use Rattle.th_lowering.specs.Sizes.{body_size, else_size, whens_size}
use Rattle.th_lowering.proofs.sizes.+stmt_sizes.Given as goal

abbrev pub invariant-size_of_body-loop-rest : goal.invariant-size_of_body-loop-rest
invariant-size_of_body-loop-rest l = (l.size < 2 ^ 64) × (size-CoreBody l.rest ≤ size-CoreBody l.fn.body)
    × (min (l.size + body_size (body_of l.rest)) (2 ^ 64 - 1) ≡ min (body_size (body_of l.fn.body)) (2 ^ 64 - 1))

abbrev pub invariant-size_of_else-loop-rest : goal.invariant-size_of_else-loop-rest
invariant-size_of_else-loop-rest l = (l.size < 2 ^ 64) × (size-CoreElse l.rest ≤ size-CoreElse l.fn.rest)
    × (min (l.size + else_size (else_of l.rest)) (2 ^ 64 - 1) ≡ min (else_size (else_of l.fn.rest)) (2 ^ 64 - 1))

abbrev pub invariant-size_of_whens-loop-rest : goal.invariant-size_of_whens-loop-rest
invariant-size_of_whens-loop-rest l = (l.size < 2 ^ 64) × (size-CoreWhenList l.rest ≤ size-CoreWhenList l.fn.whens)
    × (min (l.size + whens_size (whens_of l.rest)) (2 ^ 64 - 1) ≡ min (whens_size (whens_of l.fn.whens)) (2 ^ 64 - 1))
