use Rattle.std.proofs.Common.{◌≡◌, ◌≤◌, ◌+◌, ◌-◌, ◌^◌, length, min}
use Rattle.th_type.specs.Types.{tys_of, list_of}
use Rattle.th_type.proofs.ty.TyList.len.Given as goal

abbrev pub invariant-loop-rest : goal.invariant-loop-rest
invariant-loop-rest l = (min (l.count + length (list_of (tys_of l.rest))) (2 ^ 64 - 1) ≡ min (length (list_of (tys_of l.fn.self))) (2 ^ 64 - 1)) × (l.count ≤ 2 ^ 64 - 1)
