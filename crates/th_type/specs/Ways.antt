-- Ways from a type up to its supertypes.
use Rattle.std.specs.Prelude.{ℕ, ◌≤◌, List, length}
use Rattle.th_type.specs.Types.{TypeExpr}
use Rattle.th_type.specs.Declarations.{DeclaredType}
use Rattle.th_type.specs.Subtypes.{Climbs}

-- no way from a type up to another has more steps than there are declared types, as where no type reaches itself
abbrev pub WaysEnd : List DeclaredType → Type 0
WaysEnd D = (k : ℕ) (t u : TypeExpr) → Climbs D k t u → k ≤ length D
