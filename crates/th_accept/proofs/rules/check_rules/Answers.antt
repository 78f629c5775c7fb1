use Rattle.std.proofs.Common.{Ok, sym, subst}
use Rattle.th_module_rules.specs.Stages.{Program}
use Rattle.th_accept.specs.Stages.{IsJudged}
use Rattle.th_accept.proofs.rules.check_rules.Goals as goal

pub modules_of-requires-clause-judged : goal.modules_of-requires-clause-judged
modules_of-requires-clause-judged c = subst (λ (p : Program). IsJudged p (Ok c.in-Ok.judged)) (sym c.in-Ok.ensures.trees) c.in-Ok.ensures.answer
