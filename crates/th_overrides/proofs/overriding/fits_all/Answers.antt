use Rattle.th_type.specs.Signatures.{sig_of}
use Rattle.th_hier.specs.Views.{sig_opt}
use Rattle.th_overrides.specs.AncestorView.{ancestor_of}
use Rattle.th_overrides.specs.Overriding.{FitsAbove}
use Rattle.th_overrides.proofs.Deciding.{each_end, each_next, holds, member_at, refutes}
use Rattle.th_overrides.proofs.overriding.fits_all.Goals as goal

pub returns-then-not-branch : goal.returns-then-not-branch
returns-then-not-branch c =
    refutes c.in_ok-fits_above.field-0 c.in_ok-fits_above.ensures c.if-not-branch.true
    (λ p. p (ancestor_of c.ancestor-item.result) (member_at ancestor_of c.args.chain.now c.loop-ancestor.ancestor-index c.ancestor-item.result c.loop-ancestor-test.true c.ancestor-item.is))

pub loop-ancestor-preserved : goal.loop-ancestor-preserved
loop-ancestor-preserved c =
    each_next ancestor_of (FitsAbove c.args.hierarchy.now.types (sig_opt c.args.known.now) (sig_of c.args.sig.now)) c.args.chain.now c.loop-ancestor.ancestor-index c.ancestor-item.result c.loop-ancestor-test.true c.ancestor-item.is
    (c.in_ok-fits_above.ensures.0 c.if-not-branch.false) c.loop-ancestor.invariant

pub returns : goal.returns
returns c = holds (each_end ancestor_of (FitsAbove c.args.hierarchy.now.types (sig_opt c.args.known.now) (sig_of c.args.sig.now)) c.args.chain.now c.loop-ancestor.ancestor-index c.loop-ancestor-test.false c.loop-ancestor.invariant)
