use Rattle.std.proofs.Common.{◌∙◌, ◌++◌, ap, map, refl}
use Rattle.th_tree.specs.DeclView.{sig_of as sig_tree_of}
use Rattle.th_type.specs.Signatures.{sig_of}
use Rattle.th_hier.specs.Heads.{signature_of}
use Rattle.th_hier.specs.Texts.{sig_fails, sigs_fail}
use Rattle.th_module_rules.specs.Contexts.{signatures, to_list}
use Rattle.th_hier.proofs.Failing.{next_fails, next_list}
use Rattle.th_heads.proofs.signature.walk_sigs.Goals as goal

pub loop-sig-preserved : goal.loop-sig-preserved
loop-sig-preserved c = (
  next_list (λ x. to_list (signature_of c.args.found.now c.args.sight.now (sig_tree_of x))) (λ xs. signatures c.args.found.now c.args.sight.now (map sig_tree_of xs)) c.args.sigs.now c.loop-sig.sig-index c.sig-item.result (map sig_of c.loop-sig.done.items) _ _
      (λ y ys. refl) c.loop-sig-test.true c.sig-item.is
      (c.in_ok-push_sig.ensures ∙ ap (λ s. map sig_of c.loop-sig.done.items ++ to_list s) c.in_ok-sig.ensures.means) c.loop-sig.invariant.0,
  next_fails (λ x. sig_fails c.args.found.now c.args.sight.now c.args.text (sig_tree_of x)) (λ xs. sigs_fail c.args.found.now c.args.sight.now c.args.text (map sig_tree_of xs)) c.args.sigs.now c.loop-sig.sig-index c.sig-item.result c.loop-sig.least c.walk_sig.new.least _
      (λ y ys. refl) c.loop-sig-test.true c.sig-item.is c.in_ok-sig.ensures.least c.loop-sig.invariant.1,
)
