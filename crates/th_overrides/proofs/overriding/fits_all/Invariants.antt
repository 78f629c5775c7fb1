use Rattle.std.proofs.Common.{map, drop}
use Rattle.th_type.specs.Signatures.{sig_of}
use Rattle.th_hier.specs.Views.{sig_opt}
use Rattle.th_overrides.specs.AncestorView.{ancestor_of}
use Rattle.th_overrides.specs.Overriding.{FitsAll}
use Rattle.th_overrides.proofs.overriding.fits_all.Given as goal

abbrev pub invariant-loop-ancestor : goal.invariant-loop-ancestor
invariant-loop-ancestor l =
    FitsAll l.hierarchy.types (sig_opt l.known) (sig_of l.sig) (map ancestor_of (drop l.ancestor-index l.chain)) → FitsAll l.hierarchy.types (sig_opt l.known) (sig_of l.sig) (map ancestor_of l.chain)
