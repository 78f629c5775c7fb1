-- Why a body is refused.
use Rattle.std.specs.Prelude.{◌≡◌, List, Option, Some, None}
use Rattle.th_tree.specs.Trees.{BodySyn}
use Rattle.th_type.specs.declared.place.Failure.{Failure}
use Rattle.th_type.specs.Failures.{lower}
use Rattle.th_rules.specs.Context.{Binding, Context}
use Rattle.th_stmt_rules.specs.Units.{unit_fails, unit_core}
use Rattle.th_expr.specs.Refusals.{IsLeastFailure}
use Rattle.th_expr.specs.declared.check.RuleError.{RuleError}
use Rattle.th_expr.specs.declared.check.RuleError.TheVariants.{Rule, Memory}

-- the body of a unit is refused: it has no checked tree, and the least failure is one of the named rule at the byte; want of
-- memory says nothing
abbrev pub BodyRefused : Context → List Binding → BodySyn → RuleError → Type 0
BodyRefused C ls b (Rule n at) = (unit_core C ls b ≡ None) × IsLeastFailure (unit_fails C ls b) n at
BodyRefused C ls b Memory = Unit {0}

-- the failure that is kept of the one so far and a further one that there may be
abbrev pub lower_opt : Option Failure → Option Failure → Option Failure
lower_opt o None = o
lower_opt o (Some f) = lower o f
