-- The argument of an exception.
use Rattle.std.proofs.Common.{◌≡◌, Option, Some, None, refl}
use Rattle.th_tree.specs.Trees.{TypeSyn}
use Rattle.th_type.specs.Types.{TypeExpr}
use Rattle.th_hier.specs.Naming.{Items, Visible}
use Rattle.th_hier.specs.Resolve.{resolved_type}
use Rattle.th_hier.specs.Heads.{given, gives_type}
use Rattle.th_module_rules.specs.Contexts.{argument_type}
use Rattle.th_contexts.specs.Heads.{flat}

flat_given : (t : Option TypeExpr) → flat (given t) ≡ t
flat_given None = refl
flat_given (Some t) = refl

pub argument_is : (items : Items) (v : Visible) (t : Option TypeSyn) → flat (gives_type items v t) ≡ argument_type items v t
argument_is items v None = refl
argument_is items v (Some t) = flat_given (resolved_type items v t)
