use Rattle.std.proofs.Common.{sym, subst}
use Rattle.th_agree.specs.Names.{IsLeastName}
use Rattle.th_agree.specs.Agree.{Differs}
use Rattle.th_agree.proofs.decide.differs.Goals as goal

pub returns-in-Ok : goal.returns-in-Ok
returns-in-Ok c = λ p h. subst (IsLeastName (Differs p)) (sym c.in-Ok.ensures) h
