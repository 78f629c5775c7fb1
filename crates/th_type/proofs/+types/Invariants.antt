use Rattle.std.proofs.Common.{◌≤◌}
use Rattle.th_type.specs.declared.ty.TyList.{size-TyList}
use Rattle.th_type.proofs.+types.Given as goal

abbrev pub invariant-ty::TyList::drop-loop-self : goal.invariant-ty::TyList::drop-loop-self
invariant-ty::TyList::drop-loop-self l = size-TyList l.self ≤ size-TyList l.fn.self
