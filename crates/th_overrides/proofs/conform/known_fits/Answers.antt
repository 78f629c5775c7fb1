use Rattle.std.proofs.Common.{◌↔◌, Option, IsTrue, subst, sym}
use Rattle.th_type.specs.declared.sig.Sig.{Sig}
use Rattle.th_type.specs.Signatures.{sig_of}
use Rattle.th_hier.specs.Views.{sig_opt}
use Rattle.th_overrides.specs.Conforming.{KnownFits}
use Rattle.th_overrides.proofs.Conforms.{known_some}
use Rattle.th_overrides.proofs.conform.known_fits.Goals as goal

pub returns-in-Some : goal.returns-in-Some
returns-in-Some c =
    subst (λ (o : Option Sig). IsTrue c.result_fits.result ↔ KnownFits c.args.hierarchy.now.types (sig_opt o) (sig_of c.args.of.now)) (sym c.in-Some.is)
    (known_some c.args.hierarchy.now.types (sig_of c.in-Some.known) (sig_of c.args.of.now) c.result_fits.result c.result_fits.ensures)
