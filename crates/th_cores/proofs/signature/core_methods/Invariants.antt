use Rattle.std.proofs.Common.{◌≡◌, ◌++◌, map, drop}
use Rattle.th_type.specs.Signatures.{sig_of}
use Rattle.th_cores.specs.Cores.{core_method}
use Rattle.th_meaning.specs.View.{method_of}
use Rattle.th_cores.proofs.signature.core_methods.Given as goal

abbrev pub invariant-loop-sig : goal.invariant-loop-sig
invariant-loop-sig l = map method_of l.done.items ++ map (core_method l.names) (map sig_of (drop l.sig-index l.sigs)) ≡ map (core_method l.names) (map sig_of l.sigs)
