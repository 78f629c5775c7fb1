use Rattle.std.proofs.Common.{◌≡◌, ◌+◌, ◌-◌, length}
use Rattle.th_inherits.specs.Heights.{padded}
use Rattle.th_inherits.proofs.heights.pad.Given as goal

abbrev pub invariant-loop-heights : goal.invariant-loop-heights
invariant-loop-heights l = padded l.place l.heights.items ≡ padded l.place l.fn.heights.items

abbrev pub decreases-loop-heights : goal.decreases-loop-heights
decreases-loop-heights l = l.place + 1 - length l.heights.items
