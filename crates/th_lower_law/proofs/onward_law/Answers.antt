use Rattle.th_lower_law.proofs.Laws.{go_onward}
use Rattle.th_lower_law.proofs.onward_law.Goals as goal

pub returns : goal.returns
returns c = go_onward
