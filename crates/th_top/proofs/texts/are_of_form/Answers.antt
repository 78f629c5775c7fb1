use Rattle.std.proofs.Common.{map, subst, sym, ◌∙◌}
use Rattle.th_meaning.specs.View.{module_of}
use Rattle.th_accept.specs.Answers.{Accepted}
use Rattle.th_top.proofs.Stopped.{form_if, formless}
use Rattle.th_top.proofs.texts.are_of_form.Goals as goal

pub returns-in-Ok : goal.returns-in-Ok
returns-in-Ok c =
    form_if (map (λ x. x.items) c.args.texts.now) (map module_of c.deref.result.now) c.are_puts.result
    (subst (λ ms. Accepted (map (λ x. x.items) c.args.texts.now) (map module_of ms)) (sym c.deref.ensures.value) c.in-Ok.ensures.accepted) c.are_puts.ensures

pub returns-in-Some : goal.returns-in-Some
returns-in-Some c = formless (map (λ x. x.items) c.args.texts.now) c.in-Err.refusal _ (sym c.text_of.ensures ∙ c.in-Some.is) c.in-Err.ensures.complete
