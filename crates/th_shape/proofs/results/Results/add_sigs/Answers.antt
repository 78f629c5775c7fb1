use Rattle.std.proofs.Common.{◌∙◌, ap}
use Rattle.th_type.specs.Types.{tys_of, list_of}
use Rattle.th_shape.specs.Heads.{apply_kind, result_kind}
use Rattle.th_shape.specs.Lines.{result_of}
use Rattle.th_shape.proofs.Adding.{sigs_step, sigs_end}
use Rattle.th_shape.proofs.results.Results.add_sigs.Goals as goal

pub loop-sig-preserved : goal.loop-sig-preserved
loop-sig-preserved c = λ q. sigs_step (λ s. apply_kind (list_of (tys_of c.args.args.now)) (result_kind (result_of s))) c.args.sigs.now c.loop-sig.sig-index c.sig-item.result c.sig-item.result _ _ _ q c.apply-applied.result
    c.loop-sig-test.true c.sig-item.is (c.apply-applied.ensures ∙ ap (apply_kind (list_of (tys_of c.args.args.now))) c.of_sig-named.ensures) (c.in_ok-add.ensures q) (c.loop-sig.invariant q)

pub returns : goal.returns
returns c = λ q. sigs_end (λ s. apply_kind (list_of (tys_of c.args.args.now)) (result_kind (result_of s))) c.args.sigs.now c.loop-sig.sig-index _ _ q c.loop-sig-test.false (c.loop-sig.invariant q)
