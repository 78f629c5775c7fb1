-- Which bodies of methods there are above a class.
use Rattle.std.specs.Prelude.{ℕ, Bool, not, ◌&&◌, ◌||◌, List, length, Option, is_some}
use Rattle.th_type.specs.Types.{TypeExpr}
use Rattle.th_type.specs.Declarations.{DeclaredType}
use Rattle.th_type.specs.Lists.{is_in}
use Rattle.th_type.specs.Methods.{method_at}
use Rattle.th_module_rules.specs.Contexts.{Base, type_number}
use Rattle.th_module_rules.specs.Modules.{body_up}

-- whether the inherited class has a body of the method, where the module's own classes have these numbers
abbrev pub body_above : List DeclaredType → List Base → List ℕ → Option TypeExpr → ℕ → Bool
body_above D bs own inherits m = body_up (length bs) D bs own (type_number inherits) m

-- whether a class has a body of the method, whatever the classes above it have
abbrev pub has_own : List DeclaredType → List ℕ → Base → ℕ → Bool
has_own D own b m = is_in m b.methods || (not (is_in b.full own) && is_some (method_at D b.of m))
