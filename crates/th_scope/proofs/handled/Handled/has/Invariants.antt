use Rattle.std.proofs.Common.{◌≡◌}
use Rattle.th_type.specs.Lists.{is_in}
use Rattle.th_scope.specs.View.{handled_of}
use Rattle.th_scope.proofs.handled.Handled.has.Given as goal

abbrev pub invariant-loop-rest : goal.invariant-loop-rest
invariant-loop-rest l = is_in l.number (handled_of l.rest) ≡ is_in l.number (handled_of l.self)
