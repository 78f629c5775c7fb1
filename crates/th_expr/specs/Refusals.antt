-- Why an expression or a call has no checked tree.
use Rattle.std.specs.Prelude.{◌≡◌, ℕ, List, Some}
use Rattle.th_type.specs.declared.place.Failure.{Failure}
use Rattle.th_type.specs.Lists.{IsIn}
use Rattle.th_type.specs.Failures.{IsLeastOf}
use Rattle.th_expr.specs.declared.check.RuleError.{RuleError}
use Rattle.th_expr.specs.declared.check.RuleError.TheVariants.{Rule, Memory}

-- the rule with the number fails at the byte, and this is the least of the failures
abbrev pub IsLeastFailure : List Failure → ℕ → ℕ → Type 0
IsLeastFailure fs rule at = (f : Failure) × IsLeastOf (λ g. IsIn g fs) (Some f) × (f.rule ≡ rule) × (f.place.at ≡ at)

-- the error names the least of the failures; want of memory says nothing
abbrev pub RefusedBy : List Failure → RuleError → Type 0
RefusedBy fs (Rule n at) = IsLeastFailure fs n at
RefusedBy fs Memory = Unit {0}
