use Rattle.std.proofs.Common.{◌∙◌, ap, sym}
use Rattle.std.proofs.lemmas.Result.{IfOk-weaker}
use Rattle.th_type.specs.declared.ty.Ty.{Ty}
use Rattle.th_type.specs.Types.{list_of, ty_of, tys_of}
use Rattle.th_type.specs.Signatures.{sig_of}
use Rattle.th_type.specs.Subtypes.{head_of}
use Rattle.th_hier.specs.Views.{sig_opt}
use Rattle.th_overrides.proofs.Overrides.{of_some}
use Rattle.th_overrides.proofs.overriding.fits_of.Goals as goal

pub returns-in_ok-found-in-Some : goal.returns-in_ok-found-in-Some
returns-in_ok-found-in-Some c =
    IfOk-weaker c.fits_type.result _ _
    (λ r d. of_some c.args.hierarchy.now.types (sig_opt c.args.known.now) (sig_of c.args.sig.now) (ty_of c.args.of.now) (list_of (tys_of c.args.args.now)) c.in-Named.name (sig_of c.in-Some.found) (sig_of c.in_ok-found-in-Some.found) r
    (ap (λ (t : Ty). head_of (ty_of t)) c.in-Named.is) (sym (ap sig_opt c.in-Some.is) ∙ c.in_ok-type_method.ensures) c.in_ok-found-in-Some.ensures d)
    c.fits_type.ensures
