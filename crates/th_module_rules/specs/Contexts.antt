-- What is known where the units of a module stand. It is asked for only where no rule on names fails outside bodies and
-- initializers, so that each type, signature and clause there resolves; what does not is left out, or `int`.
use Rattle.std.specs.Prelude.{ℕ, zero, suc, ◌+◌, Bool, false, nat_eq, not, ◌&&◌, ◌||◌, List, [], ◌∷◌, ◌++◌, map, length, filter, Option, Some, None, is_some, option_map, position, unwrap_or, if◌then◌else◌}
use Rattle.th_tree.specs.declared.tree.Ident.{Ident}
use Rattle.th_tree.specs.Trees.{TypeSyn, NamedSyn, FormalSyn, SigSyn, ClauseSyn, RoutineHeadSyn, ClassHeadSyn, InitHeadSyn, ClassSyn, InterfaceItemSyn, exception_item, type_item, class_item, routine_item, InterfaceSyn, ModuleItemSyn, module_class, module_routine, ModuleSyn}
use Rattle.th_type.specs.Types.{TypeExpr, no_ty, int_ty, named_ty}
use Rattle.th_type.specs.Signatures.{Signature, Constraint}
use Rattle.th_type.specs.Declarations.{DeclaredType, Meant, unresolved, parameter, by_head, whole}
use Rattle.th_type.specs.Lists.{is_in}
use Rattle.th_type.specs.Subtypes.{head_of}
use Rattle.th_type.specs.Methods.{method_at}
use Rattle.th_hier.specs.Naming.{Items, Visible, has, with_number, different, item_at, meaning}
use Rattle.th_hier.specs.Resolve.{count, resolved_type, resolved_types, referent_type}
use Rattle.th_hier.specs.Spots.{item_name}
use Rattle.th_hier.specs.Heads.{Parts, parts_of, with_parts, signature_of, formal_types}
use Rattle.th_hier.specs.Hierarchies.{TypeHierarchy}
use Rattle.th_hier.specs.Texts.{visible, within}
use Rattle.th_rules.specs.Context.{Binding, RoutineInfo, ClassInfo, Head, exception_head, type_head, class_head, routine_head, Item, Context}
use Rattle.th_module_rules.specs.Own.{all_items, implemented, module_visible, own_full}
use Rattle.th_module_rules.specs.Inheriting.{class_meant}

-- a named type
abbrev pub named_type_of : Items → Visible → NamedSyn → Option TypeExpr
named_type_of items v n = referent_type (meaning items v n.item) (count n.args) (resolved_types items v n.args)

-- a class with its arguments, as a type of its name
abbrev pub class_type : Meant → Option TypeExpr
class_type unresolved = None
class_type parameter = None
class_type (by_head n) = None
class_type (whole n ts) = Some (named_ty n ts)

-- the inherited class
abbrev pub inherited_type : Items → Visible → Option NamedSyn → Option TypeExpr
inherited_type items v None = None
inherited_type items v (Some n) = class_type (class_meant (meaning items v n.item) (count n.args) (resolved_types items v n.args))

-- a signature without parts
abbrev pub bare_sig : ℕ → Signature
bare_sig m = record { method = m; iterator = false; formals = no_ty; gives = None; signals = [] }

-- the signature, or a bare one where it does not resolve
abbrev pub sig_or_bare : Items → Visible → SigSyn → Signature
sig_or_bare items v s = unwrap_or (signature_of items v s) (bare_sig s.name.name)

-- a clause, where its parameter and its parts are there
abbrev pub constraint : ℕ → Option ℕ → Option Parts → List Constraint
constraint m None ps = []
constraint m (Some k) None = []
constraint m (Some k) (Some ps) = record { param = k; sig = record { method = m; iterator = false; formals = ps.formals; gives = ps.gives; signals = ps.signals } } ∷ []

-- the clauses of an item with these type parameters
abbrev pub constraints : Items → Visible → List Ident → List ClauseSyn → List Constraint
constraints items v ps [] = []
constraints items v ps (c ∷ cs) =
    constraint c.method.name (position (nat_eq c.param.name) (different (map (λ p. p.name) ps))) (parts_of items v c.formals c.gives c.signals) ++ constraints items v ps cs

-- a signature that there may be
abbrev pub to_list : {A : Type 0} → Option A → List A
to_list None = []
to_list (Some a) = a ∷ []

-- the signatures
abbrev pub signatures : Items → Visible → List SigSyn → List Signature
signatures items v [] = []
signatures items v (s ∷ ss) = to_list (signature_of items v s) ++ signatures items v ss

-- the signature of an initializer of the class with this bare name
abbrev pub init_sig : Items → Visible → ℕ → InitHeadSyn → Signature
init_sig items v c i = unwrap_or (with_parts c false (parts_of items v (formal_types i.formals) None i.signals)) (bare_sig c)

-- formals or fields, of which the first has the place k
abbrev pub bindings : Items → Visible → ℕ → List FormalSyn → List Binding
bindings items v k [] = []
bindings items v k (f ∷ fs) = record { name = f.name.name; of = resolved_type items v f.of; index = k } ∷ bindings items v (k + 1) fs

-- a class by its head, its initializer, the hidden methods that it introduces, and its fields
abbrev pub class_info : Items → Visible → ClassHeadSyn → InitHeadSyn → List Signature → List Binding → ClassInfo
class_info items v h i hidden fields = record {
  params = length h.params;
  of = unwrap_or (named_type_of items v h.of) int_ty;
  inherits = inherited_type items v h.inherits;
  clauses = constraints items v h.params h.clauses;
  init = init_sig items v h.name.name i;
  hidden = hidden;
  fields = fields;
}

-- a routine or an iterator
abbrev pub routine_info : Items → Visible → RoutineHeadSyn → RoutineInfo
routine_info items v r = record {
  params = length r.params;
  sig = unwrap_or (with_parts r.name.name r.iterator (parts_of items v (formal_types r.formals) r.gives r.signals)) (bare_sig r.name.name);
  clauses = constraints items v r.params r.clauses;
}

-- what is asked of the classes above a class: the type that it is for, the class that it inherits, and the methods that are
-- defined or declared in it
pub record Base : Type 0 where
  pub full : ℕ
  pub of : TypeExpr
  pub inherits : Option ℕ
  pub methods : List ℕ

abbrev pub type_number : Option TypeExpr → Option ℕ
type_number None = None
type_number (Some t) = head_of t

abbrev pub base : ℕ → ClassInfo → List ℕ → Base
base full c ms = record { full = full; of = c.of; inherits = type_number c.inherits; methods = different ms }

-- the first class of that full name
abbrev pub base_at : List Base → ℕ → Option Base
base_at [] n = None
base_at (b ∷ bs) n = if nat_eq b.full n then Some b else base_at bs n

-- whether a class has the method: its type has it, it is defined or declared there, or the class above has it
abbrev pub base_knows : List DeclaredType → (Option ℕ → ℕ → Bool) → Option Base → ℕ → Bool
base_knows D above None m = false
base_knows D above (Some b) m = is_some (method_at D b.of m) || (is_in m b.methods || above b.inherits m)

-- the same, looked for through k classes, one above the other
abbrev pub knows : ℕ → List DeclaredType → List Base → Option ℕ → ℕ → Bool
knows zero D bs n m = false
knows (suc k) D bs None m = false
knows (suc k) D bs (Some n) m = base_knows D (knows k D bs) (base_at bs n) m

-- the own methods of a class that it introduces: its type does not have them, and the class above does not
abbrev pub introduced : List DeclaredType → List Base → ClassInfo → List Signature → List Signature
introduced D bs c ss = filter (λ s. not (is_some (method_at D c.of s.method)) && not (knows (length bs) D bs (type_number c.inherits) s.method)) ss

-- the type of an exception's argument
abbrev pub argument_type : Items → Visible → Option TypeSyn → Option TypeExpr
argument_type items v None = None
argument_type items v (Some t) = resolved_type items v t

-- an item by its parts
abbrev pub item : Option ℕ → ℕ → ℕ → Head → Item
item from name full h = record { name = name; from = from; full = full; head = h }

-- an item of an interface, of which `v` can be seen within it
abbrev pub interface_head : Items → Visible → InterfaceItemSyn → Head
interface_head items v (exception_item e) = exception_head (argument_type items v e.argument)
interface_head items v (type_item t) = type_head (length t.params)
interface_head items v (class_item c) = class_head (class_info items (within v c.head.params) c.head c.init (signatures items (within v c.head.params) c.hidden) [])
interface_head items v (routine_item r) = routine_head (routine_info items (within v r.params) r)

-- the number of the full name of an item of the interface i
abbrev pub full_in : Items → ℕ → ℕ → Option ℕ
full_in items i n = option_map (λ e. e.full) (item_at items (record { interface = i; name = n }))

abbrev pub item_with : Option ℕ → ℕ → Option ℕ → Head → List Item
item_with from n None h = []
item_with from n (Some full) h = item from n full h ∷ []

-- the items of an interface, each the first of its name
abbrev pub items_of_interface : Items → Visible → ℕ → List ℕ → List InterfaceItemSyn → List Item
items_of_interface items v i seen [] = []
items_of_interface items v i seen (x ∷ xs) =
    if has seen (item_name x).name then items_of_interface items v i seen xs
    else item_with (Some i) (item_name x).name (full_in items i (item_name x).name) (interface_head items v x)
    ++ items_of_interface items v i (with_number seen (item_name x).name) xs

-- the items of interfaces, each the first of its name
abbrev pub interface_items : Items → List ℕ → List InterfaceSyn → List Item
interface_items items seen [] = []
interface_items items seen (f ∷ fs) =
    if has seen f.name.name then interface_items items seen fs
    else items_of_interface items (visible f) f.name.name [] f.items ++ interface_items items (with_number seen f.name.name) fs

-- what is asked of the classes of interfaces
abbrev pub head_base : ℕ → Head → List Base
head_base full (exception_head t) = []
head_base full (type_head k) = []
head_base full (class_head c) = base full c (map (λ s. s.method) c.hidden) ∷ []
head_base full (routine_head r) = []

abbrev pub item_bases : List Item → List Base
item_bases [] = []
item_bases (i ∷ is) = head_base i.full i.head ++ item_bases is

-- the signatures of the own methods of a class
abbrev pub own_sigs : Items → Visible → ClassSyn → List Signature
own_sigs all v c = signatures all (within v c.head.params) (map (λ m. m.sig) c.methods)

-- a class of a module, of which the hidden methods that it introduces are these
abbrev pub own_class_info : Items → Visible → ClassSyn → List Signature → ClassInfo
own_class_info all v c hidden = class_info all (within v c.head.params) c.head c.init.head hidden (bindings all (within v c.head.params) 0 c.fields)

-- what is asked of the classes of a module, each the first of its name
abbrev pub own_bases : (ℕ → ℕ) → Items → Visible → List ℕ → List ModuleItemSyn → List Base
own_bases full all v seen [] = []
own_bases full all v seen (module_class c ∷ is) =
    if has seen c.head.name.name then own_bases full all v seen is
    else base (full c.head.name.name) (own_class_info all v c []) (map (λ m. m.sig.name.name) c.methods) ∷ own_bases full all v (with_number seen c.head.name.name) is
own_bases full all v seen (module_routine r ∷ is) = own_bases full all v (with_number seen r.head.name.name) is

-- an item of a module
abbrev pub own_head : List DeclaredType → List Base → Items → Visible → ModuleItemSyn → Head
own_head D bs all v (module_class c) = class_head (own_class_info all v c (introduced D bs (own_class_info all v c []) (own_sigs all v c)))
own_head D bs all v (module_routine r) = routine_head (routine_info all (within v r.head.params) r.head)

abbrev pub module_item_name : ModuleItemSyn → Ident
module_item_name (module_class c) = c.head.name
module_item_name (module_routine r) = r.head.name

-- the own items of a module, each the first of its name
abbrev pub own_items : (ℕ → ℕ) → List DeclaredType → List Base → Items → Visible → List ℕ → List ModuleItemSyn → List Item
own_items full D bs all v seen [] = []
own_items full D bs all v seen (i ∷ is) =
    if has seen (module_item_name i).name then own_items full D bs all v seen is
    else item None (module_item_name i).name (full (module_item_name i).name) (own_head D bs all v i) ∷ own_items full D bs all v (with_number seen (module_item_name i).name) is

-- the items that the units of a module may name, and the classes that these reach: its own before those of interfaces
abbrev pub module_items : List (List ℕ) → TypeHierarchy → List InterfaceSyn → ModuleSyn → List Item
module_items table h fs m =
    let others = interface_items h.items [] fs in
    let all = all_items table h.items m in
    let v = module_visible table m in
    own_items (own_full table h.items m) h.types (own_bases (own_full table h.items m) all v [] m.items ++ item_bases others) all v [] m.items ++ others

-- what is known where a unit of a module stands: one of an item with these type parameters and clauses, with this
-- signature, and of a class where it is a method's body
abbrev pub unit_context : ℕ → List (List ℕ) → TypeHierarchy → List Item → ModuleSyn → List Ident → List Constraint → Signature → Option ℕ → Context
unit_context text table h items m ps cs s c = record {
  text = text;
  names = table;
  types = h.types;
  items = items;
  visible = record { text = None; implements = implemented m; uses = different (map (λ u. u.name) m.uses); params = different (map (λ p. p.name) ps) };
  clauses = cs;
  sig = s;
  class = c;
}
