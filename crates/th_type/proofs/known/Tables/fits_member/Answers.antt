use Rattle.th_type.specs.Signatures.{sig_of}
use Rattle.th_type.specs.MethodTables.{method_in}
use Rattle.th_type.specs.Tables.{tables_up, tables_methods}
use Rattle.th_type.proofs.Testing.{fits_some}
use Rattle.th_type.proofs.known.Tables.fits_member.Goals as goal

pub returns-in_ok-inherited-in-Some : goal.returns-in_ok-inherited-in-Some
returns-in_ok-inherited-in-Some c = fits_some (tables_up c.args.self.now) (method_in (tables_methods c.args.self.now)) (sig_of c.args.sig.now) (sig_of c.in-Some.inherited.now) (sig_of c.in_ok-inherited-in-Some.inherited) c.args.meaning.now c.in-Whole.name c.in-Whole.args c.conforms.result c.in-Whole.is c.in-Some.ensures c.in_ok-inherited-in-Some.ensures c.conforms.ensures
