use Rattle.std.proofs.Common.{◌≡◌, slice_get}
use Rattle.th_meaning.specs.View.{types_of}
use Rattle.th_meaning.specs.Weights.{type_list}
use Rattle.th_subst.proofs.same.type_at.Given as goal

abbrev pub invariant-loop-rest : goal.invariant-loop-rest
invariant-loop-rest l = slice_get (type_list (types_of l.rest)) l.left ≡ slice_get (type_list (types_of l.fn.list)) l.fn.k
