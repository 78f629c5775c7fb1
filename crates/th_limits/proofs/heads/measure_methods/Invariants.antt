use Rattle.std.proofs.Common.{◌≡◌, map, drop}
use Rattle.th_tree.specs.DeclView.{method_of}
use Rattle.th_module_rules.specs.Limits.{sigs_counts}
use Rattle.th_limits.specs.Earliest.{earliest}
use Rattle.th_limits.proofs.heads.measure_methods.Given as goal

abbrev pub invariant-loop-method : goal.invariant-loop-method
invariant-loop-method l = earliest l.first (sigs_counts l.text (map (λ m. m.sig) (map method_of (drop l.method-index l.methods)))) ≡ earliest l.fn.first (sigs_counts l.text (map (λ m. m.sig) (map method_of l.methods)))
