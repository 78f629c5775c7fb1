use Rattle.std.proofs.Common.{sym, subst}
use Rattle.th_module_rules.specs.Stages.{NothingFails, Program}
use Rattle.th_outlines.specs.Stages.{outline_stages}
use Rattle.th_accept.proofs.rules.judge_rules.Goals as goal

pub judge_with-requires-clause-outlines : goal.judge_with-requires-clause-outlines
judge_with-requires-clause-outlines c = subst (λ (p : Program). NothingFails (outline_stages p)) (sym c.in-Ok.ensures.trees) c.in-Ok.ensures.answer.1
