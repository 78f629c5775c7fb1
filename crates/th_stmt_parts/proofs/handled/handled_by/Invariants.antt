use Rattle.std.proofs.Common.{◌≡◌}
use Rattle.th_tree.specs.View.{whens_of}
use Rattle.th_hier.specs.Naming.{with_numbers}
use Rattle.th_scope.specs.View.{context_of, locals_of}
use Rattle.th_stmt_rules.specs.Exceptions.{handled_by, when_numbers}
use Rattle.th_stmt_parts.proofs.handled.handled_by.Given as goal

abbrev pub invariant-loop-rest : goal.invariant-loop-rest
invariant-loop-rest l = with_numbers l.found (when_numbers (context_of l.env) (locals_of l.locals) (whens_of l.rest)) ≡ handled_by (context_of l.env) (locals_of l.locals) (whens_of l.whens)
