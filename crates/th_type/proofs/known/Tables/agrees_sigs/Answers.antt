use Rattle.th_type.specs.Types.{list_of, tys_of}
use Rattle.th_type.specs.Signatures.{sig_of}
use Rattle.th_type.specs.MethodTables.{method_in}
use Rattle.th_type.specs.Tests.{agrees_sig}
use Rattle.th_type.specs.Tables.{tables_methods}
use Rattle.th_type.proofs.Testing.{sigs_false}
use Rattle.th_type.proofs.known.Tables.agrees_sigs.Goals as goal

pub returns-then-not-agrees : goal.returns-then-not-agrees
returns-then-not-agrees c = sigs_false (agrees_sig c.args.written.now.keys (method_in (tables_methods c.args.self.now) c.args.name)) (list_of (tys_of c.args.args.now)) c.args.sigs.now c.loop-sig.sig-index c.sig-item.result (sig_of c.in_ok-sig.sig) c.agrees.result c.loop-sig-test.true c.sig-item.is c.in_ok-sig.ensures c.agrees.ensures c.if-not-agrees.true
