use Rattle.std.proofs.Common.{◌≡◌, map, take}
use Rattle.th_type.specs.Signatures.{sig_of}
use Rattle.th_type.specs.MethodTables.{written_sigs}
use Rattle.th_type.proofs.rows.sigs.Given as goal

abbrev pub invariant-loop-method : goal.invariant-loop-method
invariant-loop-method l = map sig_of l.sigs.items ≡ written_sigs (take l.method-index l.written)
