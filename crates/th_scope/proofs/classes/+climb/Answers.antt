use Rattle.std.proofs.Common.{◌∙◌, sym, ap, map}
use Rattle.std.proofs.lemmas.Result.{IfOk-weaker}
use Rattle.th_type.specs.Signatures.{find_sig, sig_of}
use Rattle.th_hier.specs.Views.{sig_opt}
use Rattle.th_scope.specs.View.{class_of, context_of}
use Rattle.th_scope.proofs.Climb.{up_found, up_missed}
use Rattle.th_scope.proofs.classes.+climb.Goals as goal

pub class_sig_up-returns-in-Some-2 : goal.class_sig_up-returns-in-Some-2
class_sig_up-returns-in-Some-2 t c =
    up_found c.args.steps (context_of c.args.env.now) (class_of c.args.class.now) c.args.method (sig_of c.in-Some-2.sig) c.if-steps-gt0.true
    (sym c.in_ok-sig.ensures ∙ ap sig_opt c.in_default.is) (sym c.in_ok-sig-2.ensures ∙ ap sig_opt c.in-Some-2.is)

pub class_sig_up-returns-in-None : goal.class_sig_up-returns-in-None
class_sig_up-returns-in-None t c =
    IfOk-weaker c.hidden_sig.result _ _
    (λ r h. up_missed c.args.steps (context_of c.args.env.now) (class_of c.args.class.now) c.args.method (sig_opt r) c.if-steps-gt0.true
    (sym c.in_ok-sig.ensures ∙ ap sig_opt c.in_default.is) (sym c.in_ok-sig-2.ensures ∙ ap sig_opt c.in-None.is)
    (h ∙ ap (λ xs. find_sig (map sig_of xs) c.args.method) c.deref.ensures.value))
    c.hidden_sig.ensures
