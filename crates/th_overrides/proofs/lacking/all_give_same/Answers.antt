use Rattle.th_type.specs.Signatures.{sig_of}
use Rattle.th_scope.specs.View.{context_of}
use Rattle.th_overrides.specs.AncestorView.{ancestor_of}
use Rattle.th_overrides.specs.Lacking.{GivesSame}
use Rattle.th_overrides.proofs.Deciding.{each_next, member_at, refutes}
use Rattle.th_overrides.proofs.lacking.all_give_same.Goals as goal

pub returns-then-not-branch : goal.returns-then-not-branch
returns-then-not-branch c =
    refutes c.in_ok-gives_same.field-0 c.in_ok-gives_same.ensures c.if-not-branch.true
    (λ p. p (ancestor_of c.ancestor-item.result) (member_at ancestor_of c.args.chain.now c.loop-ancestor.ancestor-index c.ancestor-item.result c.loop-ancestor-test.true c.ancestor-item.is))

pub loop-ancestor-preserved : goal.loop-ancestor-preserved
loop-ancestor-preserved c =
    each_next ancestor_of (GivesSame (context_of c.args.env.now) (sig_of c.args.of.now)) c.args.chain.now c.loop-ancestor.ancestor-index c.ancestor-item.result c.loop-ancestor-test.true c.ancestor-item.is
    (c.in_ok-gives_same.ensures.0 c.if-not-branch.false) c.loop-ancestor.invariant
