use Rattle.std.proofs.Common.{◌+◌, suc}
use Rattle.th_scope.proofs.classes.+climb.Given as goal

abbrev pub decreases-class_sig_up : goal.decreases-class_sig_up
decreases-class_sig_up l = l.steps + l.steps

abbrev pub decreases-inherited : goal.decreases-inherited
decreases-inherited l = suc (l.steps + l.steps)
