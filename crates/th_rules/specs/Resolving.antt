-- Types and classes in the body of a unit, where a local hides what has its name.
use Rattle.std.specs.Prelude.{ℕ, false, nat_eq, List, [], ◌∷◌, ◌++◌, Option, Some, None, if◌then◌else◌}
use Rattle.th_tree.specs.declared.tree.RefTree.{RefTree}
use Rattle.th_tree.specs.Trees.{TypeSyn, int_type, bool_type, text_type, array_type, named_type, TypeSyns, no_type, more_types, NamedSyn}
use Rattle.th_type.specs.declared.place.Place.{Place}
use Rattle.th_type.specs.declared.place.Failure.{Failure}
use Rattle.th_type.specs.Failures.{place, unless}
use Rattle.th_type.specs.Types.{TypeExpr, int_ty, bool_ty, text_ty, TypeExprs, no_ty}
use Rattle.th_hier.specs.Resolve.{count, type_name_fails, referent_type, array_of, before_types}
use Rattle.th_rules.specs.Context.{Binding, ClassInfo, Head, exception_head, type_head, class_head, routine_head, Item, Context, Meaning, no_meaning, local_meaning, param_meaning, item_meaning, meaning, referent}

-- the place of a reference: its first byte
abbrev pub ref_place : Context → RefTree → Place
ref_place C r = place C.text r.first.at

abbrev mutual
  -- the failures of a type, each at the first byte of the reference
  pub type_fails : Context → List Binding → TypeSyn → List Failure
  type_fails C ls (int_type at) = []
  type_fails C ls (bool_type at) = []
  type_fails C ls (text_type at) = []
  type_fails C ls (array_type at t) = type_fails C ls t
  type_fails C ls (named_type r ts) = type_name_fails (referent (meaning C ls r)) (count ts) (ref_place C r) ++ types_fails C ls ts

  -- the failures of types
  pub types_fails : Context → List Binding → TypeSyns → List Failure
  types_fails C ls no_type = []
  types_fails C ls (more_types t ts) = type_fails C ls t ++ types_fails C ls ts

abbrev mutual
  -- the type that a tree means; none where one of its names means no type or has not as many arguments as parameters
  pub resolved_type : Context → List Binding → TypeSyn → Option TypeExpr
  resolved_type C ls (int_type at) = Some int_ty
  resolved_type C ls (bool_type at) = Some bool_ty
  resolved_type C ls (text_type at) = Some text_ty
  resolved_type C ls (array_type at t) = array_of (resolved_type C ls t)
  resolved_type C ls (named_type r ts) = referent_type (referent (meaning C ls r)) (count ts) (resolved_types C ls ts)

  -- the types that trees mean, where each means one
  pub resolved_types : Context → List Binding → TypeSyns → Option TypeExprs
  resolved_types C ls no_type = Some no_ty
  resolved_types C ls (more_types t ts) = before_types (resolved_type C ls t) (resolved_types C ls ts)

-- a class with arguments: the number of its full name, what it is, and the arguments
pub record ClassUse : Type 0 where
  pub full : ℕ
  pub class : ClassInfo
  pub args : TypeExprs

-- the failure of an item where a class is needed, with n arguments: it is a class, with as many parameters
abbrev pub class_item_fails : Head → ℕ → Place → List Failure
class_item_fails (exception_head t) n p = unless false 4 p
class_item_fails (type_head k) n p = unless false 4 p
class_item_fails (class_head c) n p = unless (nat_eq n c.params) 5 p
class_item_fails (routine_head r) n p = unless false 4 p

-- the failure of a name where a class is needed, with n arguments
abbrev pub class_name_fails : Meaning → ℕ → Place → List Failure
class_name_fails no_meaning n p = unless false 4 p
class_name_fails (local_meaning b) n p = unless false 4 p
class_name_fails (param_meaning k) n p = unless false 4 p
class_name_fails (item_meaning i) n p = class_item_fails i.head n p

-- the failures of a class with its arguments
abbrev pub class_fails : Context → List Binding → NamedSyn → List Failure
class_fails C ls c = class_name_fails (meaning C ls c.item) (count c.args) (ref_place C c.item) ++ types_fails C ls c.args

-- the use of a class with n arguments
abbrev pub use_with : ℕ → ClassInfo → ℕ → TypeExprs → Option ClassUse
use_with full c n ts = if nat_eq n c.params then Some (record { full = full; class = c; args = ts }) else None

-- the use of an item as a class
abbrev pub item_use : ℕ → Head → ℕ → TypeExprs → Option ClassUse
item_use full (exception_head t) n ts = None
item_use full (type_head k) n ts = None
item_use full (class_head c) n ts = use_with full c n ts
item_use full (routine_head r) n ts = None

-- the use of what a name means as a class with n arguments, which have these types
abbrev pub meant_use : Meaning → ℕ → Option TypeExprs → Option ClassUse
meant_use m n None = None
meant_use no_meaning n (Some ts) = None
meant_use (local_meaning b) n (Some ts) = None
meant_use (param_meaning k) n (Some ts) = None
meant_use (item_meaning i) n (Some ts) = item_use i.full i.head n ts

-- the class that a tree means with its arguments
abbrev pub resolved_class : Context → List Binding → NamedSyn → Option ClassUse
resolved_class C ls c = meant_use (meaning C ls c.item) (count c.args) (resolved_types C ls c.args)
