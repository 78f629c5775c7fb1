use Rattle.std.proofs.Common.{◌≡◌, ◌+◌, ◌-◌, ◌^◌, ◌≤◌}
use Rattle.std.specs.Prelude.{min}
use Rattle.th_tree.specs.View.{types_of}
use Rattle.th_hier.specs.Resolve.{count}
use Rattle.th_limits.proofs.heads.many_types.Given as goal

abbrev pub invariant-loop-rest : goal.invariant-loop-rest
invariant-loop-rest l = (min (l.many + count (types_of l.rest)) (2 ^ 64 - 1) ≡ min (count (types_of l.fn.types)) (2 ^ 64 - 1)) × (l.many ≤ 2 ^ 64 - 1)
