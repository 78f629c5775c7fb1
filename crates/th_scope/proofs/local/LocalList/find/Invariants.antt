use Rattle.std.proofs.Common.{◌≡◌}
use Rattle.th_rules.specs.Context.{find_binding}
use Rattle.th_scope.specs.View.{locals_of}
use Rattle.th_scope.proofs.local.LocalList.find.Given as goal

abbrev pub invariant-loop-rest : goal.invariant-loop-rest
invariant-loop-rest l = find_binding (locals_of l.self) l.name ≡ find_binding (locals_of l.rest) l.name
