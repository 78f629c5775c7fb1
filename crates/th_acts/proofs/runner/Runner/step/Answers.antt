use Rattle.std.proofs.Common.{refl}
use Rattle.std.proofs.lemmas.Result.{on_err_weaker}
use Rattle.th_acts.proofs.Parting.{on_err_of, same_part, step_part}
use Rattle.th_acts.proofs.runner.Runner.step.Goals as goal

pub returns-in_err-act-clause-part : goal.returns-in_err-act-clause-part
returns-in_err-act-clause-part g c = on_err_of c.from_residual.result (λ e m from.
    same_part e c.args.self.now (g.S.Source.left c.args.input.now) (g.K.Sink.put_bytes c.args.output.now) (g.S.Source.left c.args.input.now) (g.K.Sink.put_bytes c.args.output.now) c.args.now m from refl refl)

pub returns-clause-part : goal.returns-clause-part
returns-clause-part g c = on_err_weaker c.perform.result (λ part e m from.
    step_part e c.args.self.now (record c.args.self.now { control = c.plan.new.self }) (g.S.Source.left c.args.input.now) (g.K.Sink.put_bytes c.args.output.now) c.args.now c.in_ok-act.act m from c.in_ok-act.ensures
    refl refl refl (g.S.Source.left c.perform.new.input) (g.K.Sink.put_bytes c.perform.new.output) (λ w h. part e w h)) c.perform.ensures.part
