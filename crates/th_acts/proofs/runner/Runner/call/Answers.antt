use Rattle.std.proofs.Common.{subst}
use Rattle.std.proofs.lemmas.Result.{IfOk-weaker}
use Rattle.th_control.specs.Config.{callee_of, purpose_of}
use Rattle.th_acts.specs.Targets.{target_of, IsTarget}
use Rattle.th_acts.proofs.Calling.{nothing_leads, enters_leads, known_leads}
use Rattle.th_acts.proofs.runner.Runner.call.Goals as goal

pub returns-in-Nothing : goal.returns-in-Nothing
returns-in-Nothing c = λ e left now w h.
    nothing_leads e c.args.self.now left now w (callee_of c.args.callee) c.args.args.items c.deref.result.now (purpose_of c.args.purpose) c.args.self.now.control c.deref.ensures.value h
    (subst (λ x. IsTarget e.program c.deref.result.now x (target_of e.program (callee_of c.args.callee) c.deref.result.now w)) c.in-Nothing.is (c.in_ok-aim.ensures e left now w h))

pub returns-in-Enters : goal.returns-in-Enters
returns-in-Enters c = IfOk-weaker c.enter_in_turn.result _ _ (λ next leads e left now w h.
    enters_leads e c.enter_in_turn.new.self left now w (callee_of c.args.callee) c.args.args.items c.deref.result.now (purpose_of c.args.purpose) c.args.self.now.control c.deref.ensures.value next c.in-Enters.unit
    c.in-Enters.receiver (subst (λ x. IsTarget e.program c.deref.result.now x (target_of e.program (callee_of c.args.callee) c.deref.result.now w)) c.in-Enters.is (c.in_ok-aim.ensures e left now w h))
    (λ name finds. leads e left now w name h finds)) c.enter_in_turn.ensures

pub returns : goal.returns
returns c = λ e left now w h.
    known_leads e c.known_in_turn.new.self left now w (callee_of c.args.callee) c.args.args.items c.deref.result.now (purpose_of c.args.purpose) c.args.self.now.control c.deref.ensures.value c.known_in_turn.result
    c.in-Known.value (subst (λ x. IsTarget e.program c.deref.result.now x (target_of e.program (callee_of c.args.callee) c.deref.result.now w)) c.in-Known.is (c.in_ok-aim.ensures e left now w h))
    (c.known_in_turn.ensures e left now w h)
