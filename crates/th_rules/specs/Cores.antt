-- Types in checked trees, which have full names in place of numbers.
use Rattle.std.specs.Prelude.{ℕ, List, [], unwrap_or, slice_get}
use Rattle.th_type.specs.Types.{TypeExpr, int_ty, bool_ty, text_ty, array_ty, named_ty, param_ty, TypeExprs, no_ty, more_ty}
use Rattle.th_meaning.specs.Trees.{TypeTree, int_type, bool_type, text_type, array_type, named_type, param_type, TypeTrees, no_type, more_types}

-- the bytes of the name with a number
abbrev pub name_at : List (List ℕ) → ℕ → List ℕ
name_at names n = unwrap_or (slice_get names n) []

abbrev mutual
  -- a type with full names
  pub core_type : List (List ℕ) → TypeExpr → TypeTree
  core_type names int_ty = int_type
  core_type names bool_ty = bool_type
  core_type names text_ty = text_type
  core_type names (array_ty t) = array_type (core_type names t)
  core_type names (named_ty n ts) = named_type (name_at names n) (core_types names ts)
  core_type names (param_ty k) = param_type k

  -- types with full names
  pub core_types : List (List ℕ) → TypeExprs → TypeTrees
  core_types names no_ty = no_type
  core_types names (more_ty t ts) = more_types (core_type names t) (core_types names ts)
