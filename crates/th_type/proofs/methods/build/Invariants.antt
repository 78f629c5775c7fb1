use Rattle.std.proofs.Common.{map, take}
use Rattle.th_type.specs.Signatures.{sig_of}
use Rattle.th_type.specs.Declarations.{super_of, resolved}
use Rattle.th_type.specs.MethodTables.{Joined, written_sigs}
use Rattle.th_type.proofs.methods.build.Given as goal

abbrev pub invariant-loop-member : goal.invariant-loop-member
invariant-loop-member l = Joined l.table.map.entries (written_sigs l.def.methods.items) (resolved (map super_of (take l.member-index l.def.supertypes.items))) (map sig_of l.sigs.items)
