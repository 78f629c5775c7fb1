use Rattle.std.proofs.Common.{map, take}
use Rattle.th_type.specs.Types.{list_of, tys_of}
use Rattle.th_type.specs.Signatures.{sig_of, subst_sig}
use Rattle.th_type.specs.MethodTables.{Merged}
use Rattle.th_type.proofs.methods.add_inherited.Given as goal

abbrev pub invariant-loop-sig : goal.invariant-loop-sig
invariant-loop-sig l = Merged (map sig_of l.fn.sigs.items) (map (subst_sig (list_of (tys_of l.args))) (map sig_of (take l.sig-index l.inherited))) (map sig_of l.sigs.items)
