use Rattle.std.proofs.Common.{◌∙◌, ap, sym}
use Rattle.th_type.specs.Signatures.{sig_of}
use Rattle.th_hier.specs.Views.{sig_opt}
use Rattle.th_scope.specs.View.{context_of}
use Rattle.th_overrides.specs.AncestorView.{ancestor_of}
use Rattle.th_overrides.proofs.Lackings.{gives_same_some}
use Rattle.th_overrides.proofs.lacking.gives_same.Goals as goal

pub returns-in_ok-found-in-Some : goal.returns-in_ok-found-in-Some
returns-in_ok-found-in-Some c =
    gives_same_some (context_of c.args.env.now) (sig_of c.args.of.now) (ancestor_of c.args.ancestor.now) (sig_of c.in-Some.found) (sig_of c.in_ok-found-in-Some.found) c.same_gives.result
    (sym (ap sig_opt c.in-Some.is) ∙ c.in_ok-class_sig.ensures) c.in_ok-found-in-Some.ensures c.same_gives.ensures
