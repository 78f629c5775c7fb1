use Rattle.std.proofs.Common.{◌∷◌, map}
use Rattle.th_accept.proofs.Never.{complete_with}
use Rattle.th_accept.proofs.texts.accept.Goals as goal

pub returns-clause-complete : goal.returns-clause-complete
returns-clause-complete c = complete_with (c.args.text.now ∷ map (λ x. x.items) c.args.interfaces.now) c.judge_with.result c.judge_with.ensures.refused
