use Rattle.std.proofs.Common.{ap, subst}
use Rattle.th_agree.specs.Names.{IsLeastOf, kept}
use Rattle.th_agree.specs.Agree.{Differs}
use Rattle.th_agree.proofs.decide.answer.Goals as goal

pub returns-in-Some : goal.returns-in-Some
returns-in-Some c = λ p f. c.differs.ensures p (subst (IsLeastOf (Differs p)) (ap kept c.in-Some.is) f.differs)

pub returns-in-None : goal.returns-in-None
returns-in-None c = λ p f. c.answer_twice.ensures p (subst (IsLeastOf (Differs p)) (ap kept c.in-None.is) f.differs) f
