use Rattle.std.proofs.Common.{◌≡◌, ◌++◌, map, drop}
use Rattle.th_type.specs.Signatures.{sig_of}
use Rattle.th_cores.specs.Cores.{sig_names}
use Rattle.th_cores.proofs.class.sig_names.Given as goal

abbrev pub invariant-loop-sig : goal.invariant-loop-sig
invariant-loop-sig l = l.done.items ++ sig_names l.names (map sig_of (drop l.sig-index l.sigs)) ≡ sig_names l.names (map sig_of l.sigs)
