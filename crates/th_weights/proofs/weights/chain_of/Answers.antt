use Rattle.std.proofs.Common.{◌-◌, ◌<◌, ◌≤◌, length, subst, Some}
use Rattle.th_meaning.specs.Program.{classes_of}
use Rattle.th_classes.specs.Numbers.{chain_from}
use Rattle.th_weights.specs.Sizes.{IsAt}
use Rattle.th_weights.proofs.Weighing.{chain_cut, chain_top, chain_full}
use Rattle.th_weights.proofs.weights.chain_of.Goals as goal

pub returns-in-None : goal.returns-in-None
returns-in-None c = λ p t s.
    chain_cut p c.loop-step.chain.items (length (classes_of p) - c.loop-step.step) c.loop-step.at (chain_from (length (classes_of p)) p (Some c.args.class)) (c.in-None.ensures p t s)
    (c.loop-step.invariant p t s)

pub returns-in-None-above : goal.returns-in-None-above
returns-in-None-above c = λ p t s.
    chain_top p c.loop-step.chain.items c.push.new.self.items (length (classes_of p)) c.loop-step.step c.loop-step.at c.in-Some.size (chain_from (length (classes_of p)) p (Some c.args.class))
    (subst (λ n. c.loop-step.step < n) (c.count-step-end.ensures p t) c.loop-step-test.true) c.in_ok-push-in-Some.ensures.items
    (subst (IsAt p c.loop-step.at c.in-Some.size) c.in-None-above.is (c.in-Some.ensures p t s)) (c.loop-step.invariant p t s)

pub returns : goal.returns
returns c = λ p t s.
    chain_full p c.loop-step.chain.items (length (classes_of p)) c.loop-step.step c.loop-step.at (chain_from (length (classes_of p)) p (Some c.args.class))
    (subst (λ n. n ≤ c.loop-step.step) (c.count-step-end.ensures p t) c.loop-step-test.false) (c.loop-step.invariant p t s)
