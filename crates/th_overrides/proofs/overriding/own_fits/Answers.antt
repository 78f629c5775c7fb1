use Rattle.std.proofs.Common.{◌↔◌, Option, IsTrue, map, subst}
use Rattle.std.proofs.lemmas.Result.{IfOk-weaker}
use Rattle.th_type.specs.Types.{ty_of}
use Rattle.th_type.specs.Signatures.{Signature, sig_of}
use Rattle.th_scope.specs.View.{class_of, context_of}
use Rattle.th_overrides.specs.AncestorView.{ancestor_of}
use Rattle.th_overrides.specs.Overriding.{FitsAll, FitsOwn}
use Rattle.th_overrides.proofs.Overrides.{own_left, own_refuted}
use Rattle.th_overrides.proofs.overriding.own_fits.Goals as goal

pub returns-then-not-branch : goal.returns-then-not-branch
returns-then-not-branch c =
    own_refuted (context_of c.args.env.now) (class_of c.args.class.now) (sig_of c.args.sig.now) (map ancestor_of c.args.chain.now) c.requires c.in_ok-fits_own.field-0
    (subst (λ (k : Option Signature). IsTrue c.in_ok-fits_own.field-0 ↔ FitsOwn c.args.env.now.hierarchy.now.types k (sig_of c.args.sig.now) (ty_of c.args.class.now.of)) c.in_ok-known.ensures c.in_ok-fits_own.ensures)
    c.if-not-branch.true

pub returns : goal.returns
returns c =
    IfOk-weaker c.fits_all.result _ _
    (λ g d. own_left (context_of c.args.env.now) (class_of c.args.class.now) (sig_of c.args.sig.now) (map ancestor_of c.args.chain.now) c.requires c.in_ok-fits_own.field-0 g
    (subst (λ (k : Option Signature). IsTrue c.in_ok-fits_own.field-0 ↔ FitsOwn c.args.env.now.hierarchy.now.types k (sig_of c.args.sig.now) (ty_of c.args.class.now.of)) c.in_ok-known.ensures c.in_ok-fits_own.ensures)
    c.if-not-branch.false
    (subst (λ (k : Option Signature). IsTrue g ↔ FitsAll c.args.env.now.hierarchy.now.types k (sig_of c.args.sig.now) (map ancestor_of c.args.chain.now)) c.in_ok-known.ensures d))
    c.fits_all.ensures
