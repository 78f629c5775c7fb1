use Rattle.std.proofs.Common.{subst, sym}
use Rattle.th_control.specs.Config.{callee_of}
use Rattle.th_acts.specs.Targets.{target_of, IsTarget}
use Rattle.th_acts.proofs.runner.Runner.aim.Goals as goal

pub returns-in-Method : goal.returns-in-Method
returns-in-Method c = λ e left now w h.
    subst (λ x. IsTarget e.program c.args.args.now c.method_of_value.result (target_of e.program (callee_of x) c.args.args.now w)) (sym c.in-Method.is) (c.method_of_value.ensures e left now w c.args.args.now h)

pub returns-in-Object : goal.returns-in-Object
returns-in-Object c = λ e left now w h.
    subst (λ x. IsTarget e.program c.args.args.now c.method_of.result (target_of e.program (callee_of x) c.args.args.now w)) (sym c.in-Object.is) (c.method_of.ensures e left now w c.args.args.now h)

pub returns-in-Where : goal.returns-in-Where
returns-in-Where c = λ e left now w h.
    subst (λ x. IsTarget e.program c.args.args.now c.where_method.result (target_of e.program (callee_of x) c.args.args.now w)) (sym c.in-Where.is) (c.where_method.ensures e left now w h)
