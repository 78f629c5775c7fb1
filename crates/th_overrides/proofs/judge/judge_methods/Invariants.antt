use Rattle.std.proofs.Common.{map, take}
use Rattle.th_tree.specs.DeclView.{method_of}
use Rattle.th_type.specs.Failures.{IsLeastOf}
use Rattle.th_module_rules.specs.Contexts.{sig_or_bare}
use Rattle.th_scope.specs.View.{class_of, context_of}
use Rattle.th_overrides.specs.Judging.{FailsToo, MethodsFail}
use Rattle.th_overrides.proofs.judge.judge_methods.Given as goal

abbrev pub invariant-loop-method : goal.invariant-loop-method
invariant-loop-method l =
    IsLeastOf (FailsToo l.fn.least (MethodsFail (context_of l.env) (sig_or_bare l.found l.sight) (class_of l.class) (map method_of (take l.method-index l.methods)))) l.least
