use Rattle.std.proofs.Common.{subst, sym, IfSome}
use Rattle.th_meaning.specs.View.{expr_of}
use Rattle.th_quick.specs.Quick.{IsQuick}
use Rattle.th_quick.proofs.Quickly.{quick_sum, quick_test, if_some_map}
use Rattle.th_quick.proofs.values.short.Goals as goal

pub returns-in-Arith : goal.returns-in-Arith
returns-in-Arith c =
    subst (λ x. IfSome c.sum.result (λ v. IsQuick c.args.frame.now (expr_of x) v)) (sym c.in-Arith.is)
    (if_some_map c.sum.result (λ v h. quick_sum c.args.frame.now c.in-Arith.op (expr_of c.in-Arith.a.value) (expr_of c.in-Arith.b.value) c.operand.result c.operand-in-Arith.result v
    (subst (λ x. IfSome c.operand.result (λ u. IsQuick c.args.frame.now (expr_of x) u)) c.deref.ensures c.operand.ensures)
    (subst (λ x. IfSome c.operand-in-Arith.result (λ u. IsQuick c.args.frame.now (expr_of x) u)) c.deref-in-Arith.ensures c.operand-in-Arith.ensures) h) c.sum.ensures)

pub returns-in-Compare : goal.returns-in-Compare
returns-in-Compare c =
    subst (λ x. IfSome c.test.result (λ v. IsQuick c.args.frame.now (expr_of x) v)) (sym c.in-Compare.is)
    (if_some_map c.test.result (λ v h. quick_test c.args.frame.now c.in-Compare.op (expr_of c.in-Compare.a.value) (expr_of c.in-Compare.b.value) c.operand-in-Compare.result c.operand-in-Compare-2.result v
    (subst (λ x. IfSome c.operand-in-Compare.result (λ u. IsQuick c.args.frame.now (expr_of x) u)) c.deref-in-Compare.ensures c.operand-in-Compare.ensures)
    (subst (λ x. IfSome c.operand-in-Compare-2.result (λ u. IsQuick c.args.frame.now (expr_of x) u)) c.deref-in-Compare-2.ensures c.operand-in-Compare-2.ensures) h) c.test.ensures)
