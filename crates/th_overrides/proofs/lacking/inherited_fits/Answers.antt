use Rattle.std.proofs.Common.{map}
use Rattle.th_type.specs.Signatures.{sig_of}
use Rattle.th_scope.specs.View.{class_of, context_of}
use Rattle.th_overrides.specs.AncestorView.{ancestor_of}
use Rattle.th_overrides.proofs.Lackings.{inherited_fixed, inherited_free}
use Rattle.th_overrides.proofs.lacking.inherited_fits.Goals as goal

pub returns-then-not-branch-2 : goal.returns-then-not-branch-2
returns-then-not-branch-2 c =
    inherited_free (context_of c.args.env.now) (class_of c.args.class.now) c.args.name (sig_of c.args.sig.now) (sig_of c.args.of.now) (map ancestor_of c.args.chain.now) c.requires.chain
    c.in_ok-conforms.field-0 c.is_exact_where_hidden.result c.in_ok-is_fixed.field-0 c.in_ok-conforms.ensures c.if-not-branch.false c.is_exact_where_hidden.ensures c.if-not-is_exact_where_hidden.false c.in_ok-is_fixed.ensures c.if-not-branch-2.true

pub returns : goal.returns
returns c =
    inherited_fixed (context_of c.args.env.now) (class_of c.args.class.now) c.args.name (sig_of c.args.sig.now) (sig_of c.args.of.now) (map ancestor_of c.args.chain.now) c.requires.chain
    c.in_ok-conforms.field-0 c.is_exact_where_hidden.result c.in_ok-is_fixed.field-0 c.all_give_same.result c.in_ok-conforms.ensures c.if-not-branch.false c.is_exact_where_hidden.ensures c.if-not-is_exact_where_hidden.false
    c.in_ok-is_fixed.ensures c.if-not-branch-2.false c.all_give_same.ensures
