use Rattle.std.proofs.Common.{sym, ◌∙◌}
use Rattle.th_layout.proofs.Found.{type_found}
use Rattle.th_layout.proofs.layout.Layout.type_at.Goals as goal

pub returns-in-Some-clause-within : goal.returns-in-Some-clause-within
returns-in-Some-clause-within c = λ x e. type_found c.self.inside c.args.self.now c.args.number x c.self.view_is c.self.invariant (sym c.in-Some.ensures.value ∙ e)
