use Rattle.std.proofs.Common.{◌∙◌, ◌++◌, ap, map, refl}
use Rattle.th_tree.specs.DeclView.{method_of}
use Rattle.th_type.specs.Signatures.{sig_of}
use Rattle.th_hier.specs.Heads.{signature_of}
use Rattle.th_hier.specs.Texts.{sig_fails, sigs_fail}
use Rattle.th_module_rules.specs.Contexts.{signatures, to_list}
use Rattle.th_hier.proofs.Failing.{next_fails, next_list}
use Rattle.th_heads.proofs.signature.walk_methods.Goals as goal

pub loop-method-preserved : goal.loop-method-preserved
loop-method-preserved c = (
  next_list (λ x. to_list (signature_of c.args.found.now c.args.sight.now (method_of x).sig)) (λ xs. signatures c.args.found.now c.args.sight.now (map (λ m. m.sig) (map method_of xs))) c.args.methods.now c.loop-method.method-index c.method-item.result (map sig_of c.loop-method.done.items) _ _
      (λ y ys. refl) c.loop-method-test.true c.method-item.is
      (c.in_ok-push_sig.ensures ∙ ap (λ s. map sig_of c.loop-method.done.items ++ to_list s) c.in_ok-sig.ensures.means) c.loop-method.invariant.0,
  next_fails (λ x. sig_fails c.args.found.now c.args.sight.now c.args.text (method_of x).sig) (λ xs. sigs_fail c.args.found.now c.args.sight.now c.args.text (map (λ m. m.sig) (map method_of xs))) c.args.methods.now c.loop-method.method-index c.method-item.result c.loop-method.least c.walk_sig.new.least _
      (λ y ys. refl) c.loop-method-test.true c.method-item.is c.in_ok-sig.ensures.least c.loop-method.invariant.1,
)
