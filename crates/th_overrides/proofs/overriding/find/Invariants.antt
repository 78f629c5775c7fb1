use Rattle.std.proofs.Common.{◌≡◌, map, drop}
use Rattle.th_type.specs.Signatures.{find_sig, sig_of}
use Rattle.th_overrides.proofs.overriding.find.Given as goal

abbrev pub invariant-loop-sig : goal.invariant-loop-sig
invariant-loop-sig l = find_sig (map sig_of (drop l.sig-index l.sigs)) l.method ≡ find_sig (map sig_of l.sigs) l.method
