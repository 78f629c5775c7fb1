use Rattle.std.proofs.Common.{◌≡◌}
use Rattle.th_type.specs.Types.{tys_of, list_of, arg_at}
use Rattle.th_scope.proofs.subst.argument.Given as goal

abbrev pub invariant-loop-rest : goal.invariant-loop-rest
invariant-loop-rest l = arg_at (list_of (tys_of l.args)) l.place l.place ≡ arg_at (list_of (tys_of l.rest)) l.left l.place
