use Rattle.std.proofs.Common.{map, refl}
use Rattle.th_tree.specs.DeclView.{sig_of}
use Rattle.th_module_rules.specs.Limits.{sig_counts, sigs_counts}
use Rattle.th_limits.proofs.Counting.{next_counts}
use Rattle.th_limits.proofs.heads.measure_sigs.Goals as goal

pub loop-sig-preserved : goal.loop-sig-preserved
loop-sig-preserved c =
    next_counts (λ x. sig_counts c.args.text (sig_of x)) (λ xs. sigs_counts c.args.text (map sig_of xs)) c.args.sigs.now c.loop-sig.sig-index c.sig-item.result c.loop-sig.first c.measure_sig.new.first _
    (λ y ys. refl) c.loop-sig-test.true c.sig-item.is c.measure_sig.ensures c.loop-sig.invariant
