use Rattle.std.proofs.Common.{◌≡◌, ◌++◌, map}
use Rattle.th_type.specs.Types.{list_of, tys_of}
use Rattle.th_meaning.specs.View.{type_of}
use Rattle.th_rules.specs.Cores.{core_type}
use Rattle.th_cores.proofs.signature.core_list.Given as goal

abbrev pub invariant-loop-rest : goal.invariant-loop-rest
invariant-loop-rest l = map type_of l.done.items ++ map (core_type l.names) (list_of (tys_of l.rest)) ≡ map (core_type l.names) (list_of (tys_of l.fn.list))
