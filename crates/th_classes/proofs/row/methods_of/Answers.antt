use Rattle.std.proofs.Common.{take, subst, ◌∙◌, arith}
use Rattle.th_classes.specs.Rows.{Bodies}
use Rattle.th_classes.proofs.Rowing.{names_more}
use Rattle.th_classes.proofs.row.methods_of.Goals as goal

pub loop-method-preserved : goal.loop-method-preserved
loop-method-preserved c = λ p h.
    subst (λ ms. Bodies p c.args.class.now ms c.add_body.new.bodies)
    (names_more c.args.methods.now c.loop-method.method-index c.method-item.result c.as_bytes.result.now (omega arith) c.method-item.is c.as_bytes.ensures)
    (c.in_ok-add_body.ensures p (take c.loop-method.method-index c.args.methods.now) h (c.loop-method.invariant p h))
