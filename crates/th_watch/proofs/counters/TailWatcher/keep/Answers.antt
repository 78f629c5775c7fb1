use Rattle.std.proofs.Common.{arith}
use Rattle.th_watch.proofs.TailLemmas.{take-rotated, take-rotated_full}
use Rattle.th_watch.proofs.counters.TailWatcher.keep.Goals as goal

pub returns-then-self-lt-KEPT-clause-tail : goal.returns-then-self-lt-KEPT-clause-tail
returns-then-self-lt-KEPT-clause-tail c =
    rw (← c.self.view_is) (take-rotated 15 c.self.inside.hits c.rotate_right.new.self c.self.inside.kept c.args.pc c.self.told (rw c.self.told at c.rotate_right.ensures.after) c.if-self-lt-KEPT.true)

pub returns-else-self-lt-KEPT-clause-tail : goal.returns-else-self-lt-KEPT-clause-tail
returns-else-self-lt-KEPT-clause-tail c =
    rw (← c.self.view_is) (take-rotated_full 15 c.self.inside.hits c.rotate_right.new.self c.self.inside.kept c.args.pc c.self.told (rw c.self.told at c.rotate_right.ensures.after) (omega arith))
