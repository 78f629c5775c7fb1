use Rattle.std.proofs.Common.{ap, subst}
use Rattle.th_agree.specs.Names.{IsLeastOf, kept}
use Rattle.th_agree.specs.Agree.{Missing}
use Rattle.th_agree.proofs.decide.answer_missing.Goals as goal

pub returns-in-Some : goal.returns-in-Some
returns-in-Some c = λ p g h f. c.missing.ensures p g h (subst (IsLeastOf (Missing p)) (ap kept c.in-Some.is) f.missing)

pub returns-in-None : goal.returns-in-None
returns-in-None c = λ p g h f. c.has_main.ensures p g h (subst (IsLeastOf (Missing p)) (ap kept c.in-None.is) f.missing) f.main
