use Rattle.std.proofs.Common.{◌≡◌, drop}
use Rattle.th_type.specs.Types.{tys_of}
use Rattle.th_inherits.specs.Heights.{spread}
use Rattle.th_inherits.proofs.heights.spread.Given as goal

abbrev pub invariant-loop-k : goal.invariant-loop-k
invariant-loop-k l = spread l.k (tys_of l.rest) (drop l.k l.params) l.heights.items ≡ spread 0 (tys_of l.fn.args) l.params l.fn.heights.items
