use Rattle.std.proofs.Common.{map, take}
use Rattle.th_type.specs.Signatures.{sig_of}
use Rattle.th_type.specs.MethodTables.{Merged, written_sigs}
use Rattle.th_type.proofs.methods.add_written.Given as goal

abbrev pub invariant-loop-method : goal.invariant-loop-method
invariant-loop-method l = Merged (map sig_of l.fn.sigs.items) (written_sigs (take l.method-index l.written)) (map sig_of l.sigs.items)
