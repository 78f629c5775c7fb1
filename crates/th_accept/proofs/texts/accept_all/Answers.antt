use Rattle.std.proofs.Common.{map}
use Rattle.th_accept.proofs.Never.{complete}
use Rattle.th_accept.proofs.texts.accept_all.Goals as goal

pub returns-clause-complete : goal.returns-clause-complete
returns-clause-complete c = complete (map (λ x. x.items) c.args.texts.now) c.judge_all.result c.judge_all.ensures.refused
