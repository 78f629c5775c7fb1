use Rattle.std.proofs.Common.{subst}
use Rattle.th_agree.specs.Noted.{MainIs}
use Rattle.th_agree.proofs.decide.has_main.Goals as goal

pub returns-then-main : goal.returns-then-main
returns-then-main c = λ p f g h m. record { same = f; once = g; all = h; main = subst (MainIs p) c.if-main.true m }

pub returns-else-main : goal.returns-else-main
returns-else-main c = λ p f g h m. (f, g, h, subst (MainIs p) c.if-main.false m)
