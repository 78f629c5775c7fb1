use Rattle.std.proofs.Common.{ap, subst}
use Rattle.th_agree.specs.Names.{IsLeastOf, kept}
use Rattle.th_agree.specs.Agree.{Twice}
use Rattle.th_agree.proofs.decide.answer_twice.Goals as goal

pub returns-in-Some : goal.returns-in-Some
returns-in-Some c = λ p g f. c.twice.ensures p g (subst (IsLeastOf (Twice p)) (ap kept c.in-Some.is) f.twice)

pub returns-in-None : goal.returns-in-None
returns-in-None c = λ p g f. c.answer_missing.ensures p g (subst (IsLeastOf (Twice p)) (ap kept c.in-None.is) f.twice) f
