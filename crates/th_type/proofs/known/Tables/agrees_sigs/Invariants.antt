use Rattle.std.proofs.Common.{◌≡◌, true, map, take}
use Rattle.std.specs.List.{list_all}
use Rattle.th_type.specs.Types.{list_of, tys_of}
use Rattle.th_type.specs.Signatures.{sig_of, subst_sig}
use Rattle.th_type.specs.MethodTables.{method_in}
use Rattle.th_type.specs.Tests.{agrees_sig}
use Rattle.th_type.specs.Tables.{tables_methods}
use Rattle.th_type.proofs.known.Tables.agrees_sigs.Given as goal

abbrev pub invariant-loop-sig : goal.invariant-loop-sig
invariant-loop-sig l = list_all (agrees_sig l.written.keys (method_in (tables_methods l.self) l.name)) (map (subst_sig (list_of (tys_of l.args))) (map sig_of (take l.sig-index l.sigs))) ≡ true
