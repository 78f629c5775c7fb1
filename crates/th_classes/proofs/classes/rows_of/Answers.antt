use Rattle.std.proofs.Common.{◌+◌, ◌++◌, [], ◌∷◌, map, take, sym, subst, arith}
use Rattle.th_meaning.specs.View.{class_of}
use Rattle.th_classes.specs.Rows.{RowsAre}
use Rattle.th_classes.proofs.Rowing.{rows_snoc, classes_more}
use Rattle.th_classes.proofs.classes.rows_of.Goals as goal

pub loop-class-preserved : goal.loop-class-preserved
loop-class-preserved c = λ p t n.
    subst (λ xs. RowsAre p xs (map (λ x. class_of x.now) (take (c.loop-class.class-index + 1) c.args.classes.now))) (sym c.in_ok-push.ensures.items)
    (subst (RowsAre p (c.loop-class.rows.items ++ c.in_ok-row.row ∷ [])) (classes_more c.args.classes.now c.loop-class.class-index c.class-item.result (omega arith) c.class-item.is)
    (rows_snoc p c.loop-class.rows.items (map (λ x. class_of x.now) (take c.loop-class.class-index c.args.classes.now)) c.in_ok-row.row (class_of c.class-item.result.now)
    (c.loop-class.invariant p t n) (c.in_ok-row.ensures p t n)))
