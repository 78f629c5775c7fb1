use Rattle.std.proofs.Common.{◌≡◌, ◌≤◌}
use Rattle.th_type.specs.Types.{tys_of}
use Rattle.th_type.specs.declared.ty.TyList.{size-TyList}
use Rattle.th_inherits.specs.Heights.{raised_all}
use Rattle.th_inherits.proofs.heights.+raising.Given as goal

abbrev pub invariant-raise_all-loop-rest : goal.invariant-raise_all-loop-rest
invariant-raise_all-loop-rest l =
    (raised_all l.height (tys_of l.rest) l.heights.items ≡ raised_all l.height (tys_of l.fn.types) l.fn.heights.items)
    × (size-TyList l.rest ≤ size-TyList l.fn.types)
