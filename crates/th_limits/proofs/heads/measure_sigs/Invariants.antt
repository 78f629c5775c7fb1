use Rattle.std.proofs.Common.{◌≡◌, map, drop}
use Rattle.th_tree.specs.DeclView.{sig_of}
use Rattle.th_module_rules.specs.Limits.{sigs_counts}
use Rattle.th_limits.specs.Earliest.{earliest}
use Rattle.th_limits.proofs.heads.measure_sigs.Given as goal

abbrev pub invariant-loop-sig : goal.invariant-loop-sig
invariant-loop-sig l = earliest l.first (sigs_counts l.text (map sig_of (drop l.sig-index l.sigs))) ≡ earliest l.fn.first (sigs_counts l.text (map sig_of l.sigs))
