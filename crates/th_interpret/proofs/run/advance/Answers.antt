use Rattle.std.proofs.Common.{subst, sym}
use Rattle.std.proofs.lemmas.Result.{IfOk-weaker, on_err_weaker}
use Rattle.th_acts.specs.Stands.{LeadsOn}
use Rattle.th_interpret.proofs.run.advance.Goals as goal

pub returns-in-Some-clause-next : goal.returns-in-Some-clause-next
returns-in-Some-clause-next g c = λ e m from. c.in-Some.ensures.some e (g.S.Source.left c.args.input.now) (g.K.Sink.put_bytes c.args.output.now) m from

pub returns-clause-next : goal.returns-clause-next
returns-clause-next g c = IfOk-weaker c.step.result _ _ (λ next leads e m from.
    (1, leads e m (subst (λ r. LeadsOn e r (g.S.Source.left c.args.input.now) (g.K.Sink.put_bytes c.args.output.now) c.args.now m) (sym c.in-None.ensures.none) from))) c.step.ensures.next

pub returns-clause-part : goal.returns-clause-part
returns-clause-part g c = on_err_weaker c.step.result (λ part e m from.
    part e m (subst (λ r. LeadsOn e r (g.S.Source.left c.args.input.now) (g.K.Sink.put_bytes c.args.output.now) c.args.now m) (sym c.in-None.ensures.none) from)) c.step.ensures.part
