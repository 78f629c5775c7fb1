-- Failures in arguments, from the first to the last.
use Rattle.std.proofs.Common.{◌≡◌, ℕ, List, Option, refl, sym, ◌∙◌}
use Rattle.th_tree.specs.Trees.{ExprSyns, no_expr, more_exprs}
use Rattle.th_type.specs.declared.place.Failure.{Failure}
use Rattle.th_type.specs.Failures.{lowest}
use Rattle.th_type.proofs.Least.{lowest_append}
use Rattle.th_rules.specs.Context.{Binding, Context}
use Rattle.th_rules.specs.Failing.{fails, args_fail}
use Rattle.th_rules.specs.Raising.{raises, args_raise}

-- the least of a failure and of those of arguments
abbrev pub fails_along : Context → List Binding → ExprSyns → Option Failure → Option Failure
fails_along C ls no_expr o = o
fails_along C ls (more_exprs e es) o = fails_along C ls es (lowest o (fails C ls e))

pub fails_are : (C : Context) (ls : List Binding) (es : ExprSyns) (o : Option Failure) → fails_along C ls es o ≡ lowest o (args_fail C ls es)
fails_are C ls no_expr o = refl
fails_are C ls (more_exprs e es) o = fails_are C ls es (lowest o (fails C ls e)) ∙ sym (lowest_append o (fails C ls e) (args_fail C ls es))

-- the same of the rule on exceptions
abbrev pub raises_along : Context → List Binding → List ℕ → ExprSyns → Option Failure → Option Failure
raises_along C ls h no_expr o = o
raises_along C ls h (more_exprs e es) o = raises_along C ls h es (lowest o (raises C ls h e))

pub raises_are : (C : Context) (ls : List Binding) (h : List ℕ) (es : ExprSyns) (o : Option Failure) → raises_along C ls h es o ≡ lowest o (args_raise C ls h es)
raises_are C ls h no_expr o = refl
raises_are C ls h (more_exprs e es) o = raises_are C ls h es (lowest o (raises C ls h e)) ∙ sym (lowest_append o (raises C ls h e) (args_raise C ls h es))
