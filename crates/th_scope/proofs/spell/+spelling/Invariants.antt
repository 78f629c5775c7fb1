use Rattle.std.proofs.Common.{◌≡◌, ◌≤◌}
use Rattle.th_type.specs.Types.{tys_of}
use Rattle.th_type.specs.declared.ty.TyList.{size-TyList}
use Rattle.th_meaning.specs.View.{types_of}
use Rattle.th_rules.specs.Cores.{core_types}
use Rattle.th_meaning.specs.Onto.{types_onto}
use Rattle.th_scope.proofs.spell.+spelling.Given as goal

abbrev pub decreases-core_type : goal.decreases-core_type
decreases-core_type l = goal.size-core_type l

abbrev pub decreases-core_types : goal.decreases-core_types
decreases-core_types l = goal.size-core_types l

abbrev pub invariant-core_types-loop-rest : goal.invariant-core_types-loop-rest
invariant-core_types-loop-rest l =
    (types_onto (types_of l.done) (core_types l.names (tys_of l.rest)) ≡ core_types l.names (tys_of l.list))
    × (size-TyList l.rest ≤ size-TyList l.list)
