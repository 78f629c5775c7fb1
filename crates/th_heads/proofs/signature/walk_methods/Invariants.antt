use Rattle.std.proofs.Common.{◌≡◌, ◌++◌, map, drop}
use Rattle.th_tree.specs.DeclView.{method_of}
use Rattle.th_type.specs.Signatures.{sig_of}
use Rattle.th_hier.specs.Heads.{signature_of}
use Rattle.th_hier.specs.Texts.{sig_fails, sigs_fail}
use Rattle.th_module_rules.specs.Contexts.{signatures, to_list}
use Rattle.th_type.specs.Failures.{lowest}
use Rattle.th_heads.proofs.signature.walk_methods.Given as goal

abbrev pub invariant-loop-method : goal.invariant-loop-method
invariant-loop-method l =
    (map sig_of l.done.items ++ signatures l.found l.sight (map (λ m. m.sig) (map method_of (drop l.method-index l.methods))) ≡ signatures l.found l.sight (map (λ m. m.sig) (map method_of l.methods)))
    × (lowest l.least (sigs_fail l.found l.sight l.text (map (λ m. m.sig) (map method_of (drop l.method-index l.methods)))) ≡ lowest l.fn.least (sigs_fail l.found l.sight l.text (map (λ m. m.sig) (map method_of l.methods))))
