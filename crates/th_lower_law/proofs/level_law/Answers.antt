use Rattle.th_lower_law.proofs.Laws.{are_of_level_1}
use Rattle.th_lower_law.proofs.level_law.Goals as goal

pub returns : goal.returns
returns c = are_of_level_1
