use Rattle.std.proofs.Common.{◌∙◌, ap, sym}
use Rattle.std.proofs.lemmas.Result.{IfOk-weaker}
use Rattle.th_type.specs.declared.ty.Ty.{Ty}
use Rattle.th_type.specs.Types.{ty_of}
use Rattle.th_type.specs.Signatures.{sig_of}
use Rattle.th_type.specs.Subtypes.{head_of}
use Rattle.th_hier.specs.Views.{sig_opt}
use Rattle.th_overrides.proofs.Overrides.{own_some}
use Rattle.th_overrides.proofs.overriding.fits_own.Goals as goal

pub returns-in-Some : goal.returns-in-Some
returns-in-Some c =
    IfOk-weaker c.fits_type.result _ _
    (λ r d. own_some c.args.hierarchy.now.types (sig_opt c.args.known.now) (sig_of c.args.sig.now) (ty_of c.args.of.now) c.in-Named.name (sig_of c.in-Some.found) r
    (ap (λ (t : Ty). head_of (ty_of t)) c.in-Named.is) (sym (ap sig_opt c.in-Some.is) ∙ c.in_ok-type_method.ensures) d)
    c.fits_type.ensures
