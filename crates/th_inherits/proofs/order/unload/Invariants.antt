use Rattle.std.proofs.Common.{vec_len}
use Rattle.th_inherits.proofs.order.unload.Given as goal

abbrev pub decreases-loop-full : goal.decreases-loop-full
decreases-loop-full l = vec_len l.stack
