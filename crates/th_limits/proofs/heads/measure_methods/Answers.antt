use Rattle.std.proofs.Common.{map, refl}
use Rattle.th_tree.specs.DeclView.{method_of}
use Rattle.th_module_rules.specs.Limits.{sig_counts, sigs_counts}
use Rattle.th_limits.proofs.Counting.{next_counts}
use Rattle.th_limits.proofs.heads.measure_methods.Goals as goal

pub loop-method-preserved : goal.loop-method-preserved
loop-method-preserved c =
    next_counts (λ x. sig_counts c.args.text (method_of x).sig) (λ xs. sigs_counts c.args.text (map (λ m. m.sig) (map method_of xs))) c.args.methods.now c.loop-method.method-index c.method-item.result c.loop-method.first c.measure_sig.new.first _
    (λ y ys. refl) c.loop-method-test.true c.method-item.is c.measure_sig.ensures c.loop-method.invariant
