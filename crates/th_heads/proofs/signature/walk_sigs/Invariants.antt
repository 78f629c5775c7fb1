use Rattle.std.proofs.Common.{◌≡◌, ◌++◌, map, drop}
use Rattle.th_tree.specs.DeclView.{sig_of as sig_tree_of}
use Rattle.th_type.specs.Signatures.{sig_of}
use Rattle.th_hier.specs.Heads.{signature_of}
use Rattle.th_hier.specs.Texts.{sig_fails, sigs_fail}
use Rattle.th_module_rules.specs.Contexts.{signatures, to_list}
use Rattle.th_type.specs.Failures.{lowest}
use Rattle.th_heads.proofs.signature.walk_sigs.Given as goal

abbrev pub invariant-loop-sig : goal.invariant-loop-sig
invariant-loop-sig l =
    (map sig_of l.done.items ++ signatures l.found l.sight (map sig_tree_of (drop l.sig-index l.sigs)) ≡ signatures l.found l.sight (map sig_tree_of l.sigs))
    × (lowest l.least (sigs_fail l.found l.sight l.text (map sig_tree_of (drop l.sig-index l.sigs))) ≡ lowest l.fn.least (sigs_fail l.found l.sight l.text (map sig_tree_of l.sigs)))
