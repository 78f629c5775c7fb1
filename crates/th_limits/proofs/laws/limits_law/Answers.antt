use Rattle.th_limits.proofs.Firsts.{first_is_kept, none_is_kept}
use Rattle.th_limits.proofs.laws.limits_law.Goals as goal

pub returns-clause-first : goal.returns-clause-first
returns-clause-first c = first_is_kept

pub returns-clause-none : goal.returns-clause-none
returns-clause-none c = none_is_kept
