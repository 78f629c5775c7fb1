use Rattle.std.proofs.Common.{sym, ◌∙◌, length}
use Rattle.th_meaning.specs.Program.{classes_of}
use Rattle.th_classes.proofs.Rowing.{rows_length}
use Rattle.th_classes.proofs.Walking.{walk_begins, walk_step}
use Rattle.th_classes.proofs.classes.ClassTable.method_from.Goals as goal

pub loop-step-init : goal.loop-step-init
loop-step-init c = λ p h.
    walk_begins p c.args.method.now (length c.args.self.now.rows.items) (length (classes_of p)) c.args.class (rows_length p c.args.self.now.rows.items (classes_of p) h.rows)

pub returns-in-Body : goal.returns-in-Body
returns-in-Body c = λ p h.
    sym (walk_step p c.args.method.now (length c.args.self.now.rows.items) c.loop-step.step c.loop-step.at _ c.len-step-end.result _ c.loop-step-test.true
    (c.len-step-end.ensures ∙ c.args.self.now.rows.ok.0) (c.loop-step.invariant p h) (λ n. c.in-Body.ensures p n h))

pub returns-in-Nothing : goal.returns-in-Nothing
returns-in-Nothing c = λ p h.
    sym (walk_step p c.args.method.now (length c.args.self.now.rows.items) c.loop-step.step c.loop-step.at _ c.len-step-end.result _ c.loop-step-test.true
    (c.len-step-end.ensures ∙ c.args.self.now.rows.ok.0) (c.loop-step.invariant p h) (λ n. c.in-Nothing.ensures p n h))

pub loop-step-preserved : goal.loop-step-preserved
loop-step-preserved c = λ p h.
    walk_step p c.args.method.now (length c.args.self.now.rows.items) c.loop-step.step c.loop-step.at _ c.len-step-end.result _ c.loop-step-test.true
    (c.len-step-end.ensures ∙ c.args.self.now.rows.ok.0) (c.loop-step.invariant p h) (λ n. c.in-Above.ensures p n h)
