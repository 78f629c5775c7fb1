-- Parts of heads: a class with its arguments as a type of its name, a formal or a field by its place.
use Rattle.std.specs.Prelude.{ℕ, Option, Some, None}
use Rattle.th_tree.specs.Trees.{FormalSyn}
use Rattle.th_type.specs.Types.{TypeExpr}
use Rattle.th_type.specs.Declarations.{Meant}
use Rattle.th_hier.specs.Naming.{Items, Visible}
use Rattle.th_hier.specs.Resolve.{resolved_type}
use Rattle.th_rules.specs.Context.{Binding}
use Rattle.th_module_rules.specs.Contexts.{class_type}

-- the inherited class as a type of its name, where it is meant with its arguments
abbrev pub class_type_opt : Option Meant → Option TypeExpr
class_type_opt None = None
class_type_opt (Some m) = class_type m

-- a formal or a field with its place
abbrev pub binding_at : Items → Visible → ℕ → FormalSyn → Binding
binding_at items v k f = record { name = f.name.name; of = resolved_type items v f.of; index = k }

-- what there is of what there may be
abbrev pub flat : Option (Option TypeExpr) → Option TypeExpr
flat None = None
flat (Some t) = t
