use Rattle.std.proofs.Common.{sym, subst}
use Rattle.th_agree.specs.Names.{IsLeastName}
use Rattle.th_agree.specs.Agree.{Missing}
use Rattle.th_agree.proofs.decide.missing.Goals as goal

pub returns-in-Ok : goal.returns-in-Ok
returns-in-Ok c = λ p f g h. (f, g, subst (IsLeastName (Missing p)) (sym c.in-Ok.ensures) h)
