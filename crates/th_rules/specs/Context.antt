-- What is known where a unit stands: the names of the text, the declared types, the items, and the unit itself.
use Rattle.std.specs.Prelude.{ℕ, Bool, true, false, nat_eq, ◌&&◌, ◌||◌, List, [], ◌∷◌, Option, Some, None, position, if◌then◌else◌}
use Rattle.th_tree.specs.declared.tree.Ident.{Ident}
use Rattle.th_tree.specs.declared.tree.RefTree.{RefTree}
use Rattle.th_type.specs.Types.{TypeExpr}
use Rattle.th_type.specs.Signatures.{Signature, Constraint}
use Rattle.th_type.specs.Declarations.{DeclaredType}
use Rattle.th_type.specs.Lists.{or_else}
use Rattle.th_hier.specs.declared.item.Sort.{Sort}
use Rattle.th_hier.specs.declared.item.Sort.TheVariants as sorts
use Rattle.th_hier.specs.declared.item.Entry.{Entry}
use Rattle.th_hier.specs.declared.item.Referent.{Referent}
use Rattle.th_hier.specs.declared.item.Referent.TheVariants as referents
use Rattle.th_hier.specs.Naming.{Visible, has, is_number}

-- a local, or a field of a class: the number of its name, its type where its declaration names one, and its place among
-- the locals of the unit or the class's own fields
pub record Binding : Type 0 where
  pub name : ℕ
  pub of : Option TypeExpr
  pub index : ℕ

-- a routine or an iterator: how many type parameters it has, its signature and its where-clauses
pub record RoutineInfo : Type 0 where
  pub params : ℕ
  pub sig : Signature
  pub clauses : List Constraint

-- a class: how many type parameters it has, the type that it is for, the class that it inherits, its where-clauses, the
-- signature of its initializer, the hidden methods that it introduces, and its own fields
pub record ClassInfo : Type 0 where
  pub params : ℕ
  pub of : TypeExpr
  pub inherits : Option TypeExpr
  pub clauses : List Constraint
  pub init : Signature
  pub hidden : List Signature
  pub fields : List Binding

-- what an item is
pub data Head : Type 0 where
  exception_head : (argument : Option TypeExpr) → Head
  type_head : (params : ℕ) → Head
  class_head : (class : ClassInfo) → Head
  routine_head : (routine : RoutineInfo) → Head

-- an item: the number of its bare name, the interface where it is named as `I$n` and none where it is the text's own, and
-- the number of its full name
pub record Item : Type 0 where
  pub name : ℕ
  pub from : Option ℕ
  pub full : ℕ
  pub head : Head

-- what is known where a unit stands: the number of the text, the bytes of the numbered names, the declared types, the
-- items that the text can name and the classes that these reach, the names that can be seen, and of the unit its
-- where-clauses, its signature and, where it is a method's body, its class
pub record Context : Type 0 where
  pub text : ℕ
  pub names : List (List ℕ)
  pub types : List DeclaredType
  pub items : List Item
  pub visible : Visible
  pub clauses : List Constraint
  pub sig : Signature
  pub class : Option ℕ

-- the nearest local of that name, or the first field
abbrev pub find_binding : List Binding → ℕ → Option Binding
find_binding [] n = None
find_binding (b ∷ bs) n = if nat_eq b.name n then Some b else find_binding bs n

-- whether both are the text's own, or of one interface
abbrev pub same_origin : Option ℕ → Option ℕ → Bool
same_origin None None = true
same_origin None (Some j) = false
same_origin (Some i) None = false
same_origin (Some i) (Some j) = nat_eq i j

-- the first item of that name: one of the text's own, or of the interface
abbrev pub find_item : List Item → Option ℕ → ℕ → Option Item
find_item [] from n = None
find_item (i ∷ is) from n = if same_origin i.from from && nat_eq i.name n then Some i else find_item is from n

-- what a name means: nothing, a local, a type parameter by its place, or an item
pub data Meaning : Type 0 where
  no_meaning : Meaning
  local_meaning : (local : Binding) → Meaning
  param_meaning : (place : ℕ) → Meaning
  item_meaning : (item : Item) → Meaning

-- an item where there is one
abbrev pub item_or_none : Option Item → Meaning
item_or_none None = no_meaning
item_or_none (Some i) = item_meaning i

-- a type parameter, else what follows
abbrev pub param_or : Option ℕ → Meaning → Meaning
param_or None m = m
param_or (Some k) m = param_meaning k

-- a local, else what follows
abbrev pub local_or : Option Binding → Meaning → Meaning
local_or None m = m
local_or (Some b) m = local_meaning b

-- the item of the implemented interface, where there is one
abbrev pub implemented_item : List Item → Option ℕ → ℕ → Option Item
implemented_item is None n = None
implemented_item is (Some i) n = find_item is (Some i) n

-- a bare name means a local in scope, then a type parameter, then an item of the text, then an item of the implemented
-- interface
abbrev pub bare_meaning : Context → List Binding → ℕ → Meaning
bare_meaning C ls n = local_or (find_binding ls n) (param_or (position (nat_eq n) C.visible.params)
    (item_or_none (or_else (find_item C.items None n) (implemented_item C.items C.visible.implements n))))

-- `I$n` means item n of an interface that is named after `uses` or `implements`
abbrev pub full_meaning : Context → ℕ → ℕ → Meaning
full_meaning C i n = if has C.visible.uses i || is_number C.visible.implements i then item_or_none (find_item C.items (Some i) n) else no_meaning

-- what a name means after a first one, or alone
abbrev pub named_meaning : Context → List Binding → Ident → Option Ident → Meaning
named_meaning C ls first None = bare_meaning C ls first.name
named_meaning C ls first (Some second) = full_meaning C first.name second.name

-- what a reference means where these locals are in scope
abbrev pub meaning : Context → List Binding → RefTree → Meaning
meaning C ls r = named_meaning C ls r.first r.second

-- the sort of a routine or of an iterator
abbrev pub routine_sort : Bool → ℕ → Sort
routine_sort false k = sorts.Routine k
routine_sort true k = sorts.Iterator k

-- the sort of an item
abbrev pub sort_of : Head → Sort
sort_of (exception_head t) = sorts.Exception
sort_of (type_head k) = sorts.Declared k
sort_of (class_head c) = sorts.Class c.params
sort_of (routine_head r) = routine_sort r.sig.iterator r.params

-- what a name refers to where a type is needed; a local is nothing there
abbrev pub referent : Meaning → Referent
referent no_meaning = referents.Nothing
referent (local_meaning b) = referents.Nothing
referent (param_meaning k) = referents.Param k
referent (item_meaning i) = referents.Item (record { full = i.full; sort = sort_of i.head })
