use Rattle.std.proofs.Common.{◌≡◌, ◌+◌, [], length}
use Rattle.th_scope.specs.View.{locals_of}
use Rattle.th_stmt_parts.specs.View.{locals_onto}
use Rattle.th_stmt_parts.proofs.local.turned.Given as goal

abbrev pub invariant-loop-rest : goal.invariant-loop-rest
invariant-loop-rest l = (locals_onto (locals_of l.rest) (locals_of l.done) ≡ locals_onto (locals_of l.locals) [])
    × (l.count + length (locals_of l.rest) ≡ length (locals_of l.locals))
