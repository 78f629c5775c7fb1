use Rattle.std.proofs.Common.{sym, ◌∙◌}
use Rattle.th_layout.proofs.Found.{class_found}
use Rattle.th_layout.proofs.layout.Layout.class_at.Goals as goal

pub returns-in-Some-clause-within : goal.returns-in-Some-clause-within
returns-in-Some-clause-within c = λ x e. class_found c.self.inside c.args.self.now c.args.number x c.self.view_is c.self.invariant (sym c.in-Some.ensures.value ∙ e)
