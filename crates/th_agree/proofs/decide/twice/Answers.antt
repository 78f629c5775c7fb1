use Rattle.std.proofs.Common.{sym, subst}
use Rattle.th_agree.specs.Names.{IsLeastName}
use Rattle.th_agree.specs.Agree.{Twice}
use Rattle.th_agree.proofs.decide.twice.Goals as goal

pub returns-in-Ok : goal.returns-in-Ok
returns-in-Ok c = λ p g h. (g, subst (IsLeastName (Twice p)) (sym c.in-Ok.ensures) h)
