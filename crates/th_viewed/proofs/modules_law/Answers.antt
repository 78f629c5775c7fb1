-- Lowered modules lead to lowered units.
use Rattle.th_viewed.proofs.Origins.{modules_lowered}
use Rattle.th_viewed.proofs.modules_law.Goals as goal

pub returns : goal.returns
returns c = modules_lowered
