use Rattle.std.proofs.Common.{◌≡◌, drop}
use Rattle.th_scope.specs.View.{locals_of}
use Rattle.th_stmt_parts.proofs.local.leave_all.Given as goal

abbrev pub invariant-loop-done : goal.invariant-loop-done
invariant-loop-done l = locals_of l.locals ≡ drop l._done (locals_of l.fn.locals)
