-- Declared types whose supertypes fit one another.
use Rattle.std.specs.Prelude.{◌≡◌, ℕ, List, length}
use Rattle.th_type.specs.Lists.{IsIn}
use Rattle.th_type.specs.Types.{TypeExpr, TypeExprs, named_ty, list_of, ParamsBelow}
use Rattle.th_type.specs.Declarations.{DeclaredType, supers_of, params_of}

-- t is a declared type with as many arguments as parameters
pub record Saturated (D : List DeclaredType) (t : TypeExpr) : Type 0 where
  pub name : ℕ
  pub args : TypeExprs
  pub is : t ≡ named_ty name args
  pub count : length (list_of args) ≡ params_of D name

-- each declared supertype is saturated, and its parameters are those of the type
pub record Fits (D : List DeclaredType) : Type 0 where
  pub whole : (n : ℕ) (t : TypeExpr) → IsIn t (supers_of D n) → Saturated D t
  pub below : (n : ℕ) (t : TypeExpr) → IsIn t (supers_of D n) → ParamsBelow (params_of D n) t
