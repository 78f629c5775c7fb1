-- The type that a tree means, and the failures of the rules on names and on the number of arguments.
use Rattle.std.specs.Prelude.{ℕ, ◌+◌, false, nat_eq, List, [], ◌++◌, Option, Some, None, if◌then◌else◌}
use Rattle.th_tree.specs.Trees.{TypeSyn, int_type, bool_type, text_type, array_type, named_type, TypeSyns, no_type, more_types}
use Rattle.th_type.specs.declared.place.Place.{Place}
use Rattle.th_type.specs.declared.place.Failure.{Failure}
use Rattle.th_type.specs.Failures.{place, unless}
use Rattle.th_type.specs.Types.{TypeExpr, int_ty, bool_ty, text_ty, array_ty, named_ty, param_ty, TypeExprs, no_ty, more_ty}
use Rattle.th_hier.specs.declared.item.Sort.{Sort}
use Rattle.th_hier.specs.declared.item.Sort.TheVariants.{Exception, Declared, Class, Routine, Iterator}
use Rattle.th_hier.specs.declared.item.Referent.{Referent}
use Rattle.th_hier.specs.declared.item.Referent.TheVariants as referents
use Rattle.th_hier.specs.Naming.{Items, Visible, meaning}

-- how many types there are
abbrev pub count : TypeSyns → ℕ
count no_type = 0
count (more_types t ts) = 1 + count ts

-- the failure of an item in a type, with n arguments: it is a declared type, with as many parameters
abbrev pub sort_fails : Sort → ℕ → Place → List Failure
sort_fails Exception n p = unless false 4 p
sort_fails (Declared k) n p = unless (nat_eq n k) 5 p
sort_fails (Class k) n p = unless false 4 p
sort_fails (Routine k) n p = unless false 4 p
sort_fails (Iterator k) n p = unless false 4 p

-- the failure of what is referred to in a type, with n arguments: a type parameter has none
abbrev pub type_name_fails : Referent → ℕ → Place → List Failure
type_name_fails referents.Nothing n p = unless false 4 p
type_name_fails (referents.Param k) n p = unless (nat_eq n 0) 5 p
type_name_fails (referents.Item e) n p = sort_fails e.sort n p

abbrev mutual
  -- the failures of a type in a text, each at the first byte of the reference
  pub type_fails : Items → Visible → ℕ → TypeSyn → List Failure
  type_fails items v text (int_type at) = []
  type_fails items v text (bool_type at) = []
  type_fails items v text (text_type at) = []
  type_fails items v text (array_type at t) = type_fails items v text t
  type_fails items v text (named_type r ts) = type_name_fails (meaning items v r) (count ts) (place text r.first.at) ++ types_fails items v text ts

  -- the failures of types
  pub types_fails : Items → Visible → ℕ → TypeSyns → List Failure
  types_fails items v text no_type = []
  types_fails items v text (more_types t ts) = type_fails items v text t ++ types_fails items v text ts

-- the type of an item with n arguments
abbrev pub sort_type : Sort → ℕ → ℕ → TypeExprs → Option TypeExpr
sort_type Exception full n ts = None
sort_type (Declared k) full n ts = if nat_eq n k then Some (named_ty full ts) else None
sort_type (Class k) full n ts = None
sort_type (Routine k) full n ts = None
sort_type (Iterator k) full n ts = None

-- the type of what is referred to, with n arguments that have these types
abbrev pub referent_type : Referent → ℕ → Option TypeExprs → Option TypeExpr
referent_type r n None = None
referent_type referents.Nothing n (Some ts) = None
referent_type (referents.Param k) n (Some ts) = if nat_eq n 0 then Some (param_ty k) else None
referent_type (referents.Item e) n (Some ts) = sort_type e.sort e.full n ts

-- an array of the elements' type
abbrev pub array_of : Option TypeExpr → Option TypeExpr
array_of None = None
array_of (Some t) = Some (array_ty t)

-- a type before others, where all are there
abbrev pub before_types : Option TypeExpr → Option TypeExprs → Option TypeExprs
before_types None ts = None
before_types (Some t) None = None
before_types (Some t) (Some ts) = Some (more_ty t ts)

abbrev mutual
  -- the type that a tree means; none where one of its names means no type or has not as many arguments as parameters
  pub resolved_type : Items → Visible → TypeSyn → Option TypeExpr
  resolved_type items v (int_type at) = Some int_ty
  resolved_type items v (bool_type at) = Some bool_ty
  resolved_type items v (text_type at) = Some text_ty
  resolved_type items v (array_type at t) = array_of (resolved_type items v t)
  resolved_type items v (named_type r ts) = referent_type (meaning items v r) (count ts) (resolved_types items v ts)

  -- the types that trees mean, where each means one
  pub resolved_types : Items → Visible → TypeSyns → Option TypeExprs
  resolved_types items v no_type = Some no_ty
  resolved_types items v (more_types t ts) = before_types (resolved_type items v t) (resolved_types items v ts)
