use Rattle.std.proofs.Common.{◌≡◌, ◌++◌, map}
use Rattle.th_type.specs.Signatures.{sig_of}
use Rattle.th_module_rules.specs.Contexts.{introduced}
use Rattle.th_scope.specs.ItemView.{class_of}
use Rattle.th_contexts.specs.Bases.{bases_of}
use Rattle.th_contexts.proofs.own.introduced.Given as goal

abbrev pub invariant-loop-sig : goal.invariant-loop-sig
invariant-loop-sig l =
    map sig_of l.kept.items ++ introduced l.hierarchy.types (bases_of l.bases) (class_of l.class) (map sig_of l.sig-iterator.rest.items)
    ≡ introduced l.hierarchy.types (bases_of l.bases) (class_of l.class) (map sig_of l.fn.sigs.items)
