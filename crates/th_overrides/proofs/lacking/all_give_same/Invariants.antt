use Rattle.std.proofs.Common.{map, drop}
use Rattle.th_type.specs.Signatures.{sig_of}
use Rattle.th_scope.specs.View.{context_of}
use Rattle.th_overrides.specs.AncestorView.{ancestor_of}
use Rattle.th_overrides.specs.Lacking.{AllGiveSame}
use Rattle.th_overrides.proofs.lacking.all_give_same.Given as goal

abbrev pub invariant-loop-ancestor : goal.invariant-loop-ancestor
invariant-loop-ancestor l =
    AllGiveSame (context_of l.env) (sig_of l.of) (map ancestor_of (drop l.ancestor-index l.chain)) → AllGiveSame (context_of l.env) (sig_of l.of) (map ancestor_of l.chain)
