use Rattle.std.proofs.Common.{◌∙◌, sym}
use Rattle.th_meaning.specs.View.{type_of}
use Rattle.th_weights.proofs.Supertypes.{reach_begins, reach_here, reach_nowhere, reach_on, reach_full}
use Rattle.th_weights.proofs.table.TypeTable.reaches.Goals as goal

pub loop-step-init : goal.loop-step-init
loop-step-init c = λ p h. reach_begins p c.args.self.now.count (type_of c.args.other.now) (type_of c.args.this.now) (type_of c.in_ok-at.at) h.count c.in_ok-at.ensures

pub returns-in-Here : goal.returns-in-Here
returns-in-Here c = λ p h.
    reach_here p c.args.self.now.count c.loop-step.step (type_of c.args.other.now) (type_of c.loop-step.at) _ c.in_ok-found.found c.loop-step-test.true (c.loop-step.invariant p h)
    (λ n. c.in_ok-found.ensures p n h) c.in-Here.is

pub returns-in-Nowhere : goal.returns-in-Nowhere
returns-in-Nowhere c = λ p h.
    reach_nowhere p c.args.self.now.count c.loop-step.step (type_of c.args.other.now) (type_of c.loop-step.at) _ c.in_ok-found.found c.loop-step-test.true (c.loop-step.invariant p h)
    (λ n. c.in_ok-found.ensures p n h) c.in-Nowhere.is

pub loop-step-preserved : goal.loop-step-preserved
loop-step-preserved c = λ p h.
    reach_on p c.args.self.now.count c.loop-step.step (type_of c.args.other.now) (type_of c.loop-step.at) _ c.in_ok-found.found c.in-Above.above c.loop-step-test.true (c.loop-step.invariant p h)
    (λ n. c.in_ok-found.ensures p n h) c.in-Above.is

pub returns : goal.returns
returns c = λ p h.
    c.is_same.ensures
    ∙ sym (reach_full p c.args.self.now.count c.loop-step.step (type_of c.args.other.now) (type_of c.loop-step.at) _ c.loop-step-test.false (c.loop-step.invariant p h))
