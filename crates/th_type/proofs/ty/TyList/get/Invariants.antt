use Rattle.std.proofs.Common.{◌≡◌, slice_get}
use Rattle.th_type.specs.Types.{tys_of, list_of}
use Rattle.th_type.proofs.ty.TyList.get.Given as goal

abbrev pub invariant-loop-rest : goal.invariant-loop-rest
invariant-loop-rest l = slice_get (list_of (tys_of l.rest)) l.left ≡ slice_get (list_of (tys_of l.fn.self)) l.fn.k
