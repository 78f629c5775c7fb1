use Rattle.std.proofs.Common.{◌≡◌, ◌≤◌}
use Rattle.th_meaning.specs.View.{body_of, else_of, whens_of}
use Rattle.th_meaning.specs.Counts.{body_has_for, else_has_for, whens_have_for}
use Rattle.th_meaning.specs.declared.stmt.CoreBody.{size-CoreBody}
use Rattle.th_meaning.specs.declared.stmt.CoreElse.{size-CoreElse}
use Rattle.th_meaning.specs.declared.stmt.CoreWhenList.{size-CoreWhenList}
use Rattle.th_meaning.proofs.count_locals.+has_for.Given as goal

abbrev pub invariant-has_for_body-loop-rest : goal.invariant-has_for_body-loop-rest
invariant-has_for_body-loop-rest l = (size-CoreBody l.rest ≤ size-CoreBody l.fn.body)
    × (body_has_for (body_of l.rest) ≡ body_has_for (body_of l.fn.body))

abbrev pub invariant-has_for_else-loop-rest : goal.invariant-has_for_else-loop-rest
invariant-has_for_else-loop-rest l = (size-CoreElse l.rest ≤ size-CoreElse l.fn.rest)
    × (else_has_for (else_of l.rest) ≡ else_has_for (else_of l.fn.rest))

abbrev pub invariant-has_for_whens-loop-rest : goal.invariant-has_for_whens-loop-rest
invariant-has_for_whens-loop-rest l = (size-CoreWhenList l.rest ≤ size-CoreWhenList l.fn.whens)
    × (whens_have_for (whens_of l.rest) ≡ whens_have_for (whens_of l.fn.whens))
