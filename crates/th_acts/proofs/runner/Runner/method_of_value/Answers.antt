use Rattle.std.proofs.Common.{subst}
use Rattle.th_meaning.specs.Meaning.{method_target}
use Rattle.th_acts.specs.Targets.{IsTarget}
use Rattle.th_acts.proofs.runner.Runner.method_of_value.Goals as goal

pub returns-in-Ref : goal.returns-in-Ref
returns-in-Ref c = λ e left now w vs h.
    subst (λ v. IsTarget e.program vs c.method_of.result (method_target e.program c.args.method.now v vs w)) c.in-Ref.ensures (c.method_of.ensures e left now w vs h)
