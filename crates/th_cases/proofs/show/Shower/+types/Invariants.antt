use Rattle.std.proofs.Common.{◌≤◌}
use Rattle.th_type.specs.declared.ty.TyList.{size-TyList}
use Rattle.th_cases.proofs.show.Shower.+types.Given as goal

abbrev pub invariant-types-loop-left : goal.invariant-types-loop-left
invariant-types-loop-left l = size-TyList l.left ≤ size-TyList l.fn.list
