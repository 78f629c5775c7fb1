use Rattle.std.proofs.Common.{◌↔◌, List, IsTrue, map, subst}
use Rattle.std.proofs.lemmas.Result.{IfOk-weaker}
use Rattle.th_type.specs.declared.sig.Sig.{Sig}
use Rattle.th_type.specs.Types.{list_of, tys_of}
use Rattle.th_type.specs.Signatures.{sig_of}
use Rattle.th_hier.specs.Views.{sig_opt}
use Rattle.th_overrides.specs.Overriding.{FitsAmong}
use Rattle.th_overrides.proofs.Deciding.{left_decides}
use Rattle.th_overrides.proofs.overriding.fits_above.Goals as goal

pub returns : goal.returns
returns c =
    IfOk-weaker c.fits_among.result _ _
    (λ g d. left_decides c.in_ok-fits_of.field-0 g c.in_ok-fits_of.ensures c.if-not-branch.false
    (subst (λ (hs : List Sig). IsTrue g ↔ FitsAmong c.args.hierarchy.now.types (sig_opt c.args.known.now) (sig_of c.args.sig.now) (map sig_of hs) (list_of (tys_of c.args.ancestor.now.args))) c.deref.ensures.value d)
    (λ a b. (a, b)) (λ p. p.1))
    c.fits_among.ensures
