use Rattle.std.proofs.Common.{◌≡◌, ◌++◌, map}
use Rattle.th_meaning.specs.View.{field_of}
use Rattle.th_scope.specs.View.{locals_of}
use Rattle.th_cores.specs.Cores.{core_field}
use Rattle.th_cores.proofs.class.core_fields.Given as goal

abbrev pub invariant-loop-rest : goal.invariant-loop-rest
invariant-loop-rest l = map field_of l.done.items ++ map (core_field l.names) (locals_of l.rest) ≡ map (core_field l.names) (locals_of l.fn.fields)
