use Rattle.std.proofs.Common.{◌∙◌}
use Rattle.th_classes.proofs.Rowing.{adds_body}
use Rattle.th_classes.proofs.row.add_body.Goals as goal

pub returns-in-Ok : goal.returns-in-Ok
returns-in-Ok c = λ p done h bodies.
    adds_body p c.args.class.now c.args.method.now c.deref.result.now c.number-unit.result c.args.bodies.now c.insert.new.self done
    (c.deref.ensures.value ∙ c.in_ok-name.ensures) (c.number-unit.ensures p h) c.in-Ok.ensures.updates bodies
