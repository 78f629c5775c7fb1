use Rattle.std.proofs.Common.{◌≡◌, ◌++◌, map, drop}
use Rattle.th_type.specs.Types.{ty_of}
use Rattle.th_rules.specs.Cores.{core_type}
use Rattle.th_meaning.specs.View.{type_of}
use Rattle.th_cores.proofs.interface.core_list.Given as goal

abbrev pub invariant-loop-ty : goal.invariant-loop-ty
invariant-loop-ty l = map type_of l.done.items ++ map (core_type l.names) (map ty_of (drop l.ty-index l.types)) ≡ map (core_type l.names) (map ty_of l.types)
