use Rattle.std.proofs.Common.{◌≡◌, ◌≤◌, ◌+◌, ◌-◌, ◌^◌, length, min}
use Rattle.th_meaning.specs.View.{types_of}
use Rattle.th_meaning.specs.Weights.{type_list}
use Rattle.th_subst.proofs.same.length_of.Given as goal

abbrev pub invariant-loop-rest : goal.invariant-loop-rest
invariant-loop-rest l = (min (l.count + length (type_list (types_of l.rest))) (2 ^ 64 - 1) ≡ min (length (type_list (types_of l.fn.list))) (2 ^ 64 - 1)) × (l.count ≤ 2 ^ 64 - 1)
