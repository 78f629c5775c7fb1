use Rattle.std.proofs.Common.{subst}
use Rattle.th_meaning.specs.Meaning.{where_target}
use Rattle.th_acts.specs.Targets.{IsTarget}
use Rattle.th_acts.proofs.runner.Runner.where_method.Goals as goal

pub returns-in-Ref : goal.returns-in-Ref
returns-in-Ref c = λ e left now w h.
    subst (λ v. IsTarget e.program c.args.args.now c.method_of.result (where_target e.program c.args.method.now v c.args.args.now w)) c.in-Ref.ensures (c.method_of.ensures e left now w c.args.args.now h)
