-- The rules on where-clauses and on `main`, in items of interfaces and of modules.
use Rattle.std.specs.Prelude.{ℕ, Bool, true, false, nat_eq, not, ◌&&◌, ◌||◌, List, [], ◌∷◌, ◌++◌, map, is_some, codes}
use Rattle.std.specs.List.{list_any}
use Rattle.th_tree.specs.declared.tree.Ident.{Ident}
use Rattle.th_tree.specs.Names.{place_of}
use Rattle.th_tree.specs.Trees.{ClauseSyn, RoutineHeadSyn, InterfaceItemSyn, exception_item, type_item, class_item, routine_item}
use Rattle.th_type.specs.declared.place.Failure.{Failure}
use Rattle.th_type.specs.Failures.{place, unless}
use Rattle.th_hier.specs.Naming.{has}
use Rattle.th_hier.specs.Spots.{item_name}

-- whether both clauses are for one parameter and one method
abbrev pub same_clause : ClauseSyn → ClauseSyn → Bool
same_clause a b = nat_eq a.param.name b.param.name && nat_eq a.method.name b.method.name

-- the failures of clauses of an item with these type parameters: each is for one of them, and none is for the parameter and
-- the method of one before it
abbrev pub clauses_fail : ℕ → List ℕ → List ClauseSyn → List ClauseSyn → List Failure
clauses_fail text params before [] = []
clauses_fail text params before (c ∷ cs) =
    unless (has params c.param.name && not (list_any (same_clause c) before)) 11 (place text c.param.at) ++ clauses_fail text params (c ∷ before) cs

abbrev pub names_of : List Ident → List ℕ
names_of is = map (λ i. i.name) is

-- the failures of the clauses of an item
abbrev pub item_clauses_fail : ℕ → InterfaceItemSyn → List Failure
item_clauses_fail text (exception_item e) = []
item_clauses_fail text (type_item t) = []
item_clauses_fail text (class_item c) = clauses_fail text (names_of c.head.params) [] c.head.clauses
item_clauses_fail text (routine_item r) = clauses_fail text (names_of r.params) [] r.clauses

-- whether there are none
abbrev pub is_empty : {A : Type 0} → List A → Bool
is_empty [] = true
is_empty (x ∷ xs) = false

-- a routine without parameters, formals, result and clauses
abbrev pub is_plain : RoutineHeadSyn → Bool
is_plain r = not r.iterator && is_empty r.params && is_empty r.formals && not (is_some r.gives) && is_empty r.clauses

abbrev pub is_plain_routine : InterfaceItemSyn → Bool
is_plain_routine (exception_item e) = false
is_plain_routine (type_item t) = false
is_plain_routine (class_item c) = false
is_plain_routine (routine_item r) = is_plain r

-- the number of the name `main`
abbrev pub main_number : List (List ℕ) → ℕ
main_number table = place_of table (codes "main")

-- whether an item is named `main`
abbrev pub is_main : List (List ℕ) → InterfaceItemSyn → Bool
is_main table i = nat_eq (item_name i).name (main_number table)

-- the failures in an item of an interface: of its clauses, and it is not named `main`
abbrev pub interface_item_fails : List (List ℕ) → ℕ → InterfaceItemSyn → List Failure
interface_item_fails table text i = item_clauses_fail text i ++ unless (not (is_main table i)) 29 (place text (item_name i).at)

-- the failures in an item of a module: of its clauses, and `main` is a plain routine
abbrev pub module_item_fails : List (List ℕ) → ℕ → InterfaceItemSyn → List Failure
module_item_fails table text i = item_clauses_fail text i ++ unless (not (is_main table i) || is_plain_routine i) 29 (place text (item_name i).at)

-- the failures in the items of an interface, or of a module
abbrev pub interface_items_fail : List (List ℕ) → ℕ → List InterfaceItemSyn → List Failure
interface_items_fail table text [] = []
interface_items_fail table text (i ∷ is) = interface_item_fails table text i ++ interface_items_fail table text is

abbrev pub module_items_fail : List (List ℕ) → ℕ → List InterfaceItemSyn → List Failure
module_items_fail table text [] = []
module_items_fail table text (i ∷ is) = module_item_fails table text i ++ module_items_fail table text is
