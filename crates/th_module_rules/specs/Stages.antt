-- The failures of rules in the texts of a program, in the order in which they are judged, and the failure that is named.
use Rattle.std.specs.Prelude.{◌≡◌, ℕ, ◌⊎◌, List, [], ◌∷◌, ◌++◌, map, Some, None, slice_get, unwrap_or}
use Rattle.th_tree.specs.Trees.{InterfaceClassSyn, InterfaceItemSyn, exception_item, type_item, class_item, routine_item, InterfaceSyn, ModuleSyn}
use Rattle.th_type.specs.declared.place.Failure.{Failure}
use Rattle.th_type.specs.Failures.{place, failure, IsLeastOf}
use Rattle.th_type.specs.Lists.{IsIn}
use Rattle.th_hier.specs.Naming.{Items, Visible}
use Rattle.th_hier.specs.Numbering.{full_numbers}
use Rattle.th_hier.specs.Hierarchies.{TypeHierarchy, hierarchy_of, FailsEarly, FailsLate}
use Rattle.th_hier.specs.Texts.{visible, within}
use Rattle.th_rules.specs.Context.{ClassInfo, Context}
use Rattle.th_module_rules.specs.Own.{head_items, module_names_fail}
use Rattle.th_module_rules.specs.Clauses.{interface_items_fail, module_items_fail}
use Rattle.th_module_rules.specs.Inheriting.{interfaces_rows, module_rows, InheritingFails}
use Rattle.th_module_rules.specs.Contexts.{bare_sig, class_info, interface_items}
use Rattle.th_module_rules.specs.Modules.{inherits_fails, judged, ModuleFails}

-- an interface or a module with the number of its text
pub record Numbered (A : Type 0) : Type 0 where
  pub text : ℕ
  pub tree : A

abbrev pub numbered : {A : Type 0} → ℕ → A → Numbered A
numbered n a = record { text = n; tree = a }

-- the texts of a program, with the numbers of all names in them and of the full names of all items
pub record Program : Type 0 where
  pub table : List (List ℕ)
  pub interfaces : List (Numbered InterfaceSyn)
  pub modules : List (Numbered ModuleSyn)

abbrev pub interface_trees : Program → List InterfaceSyn
interface_trees p = map (λ i. i.tree) p.interfaces

-- the hierarchy of its interfaces
abbrev pub hierarchy_in : Program → TypeHierarchy
hierarchy_in p = hierarchy_of p.table (interface_trees p)

-- a failure in an interface by its place among the interfaces, at the number of its text
abbrev pub placed : Program → Failure → Failure
placed p f = failure f.rule (place (unwrap_or (slice_get (map (λ i. i.text) p.interfaces) f.place.text) f.place.text) f.place.at)

-- first: rules 1 to 7 in the interfaces; then rule 8
abbrev pub FailsFirst : Program → Failure → Type 0
FailsFirst p f = (g : Failure) × FailsEarly (hierarchy_in p).items (interface_trees p) g × (f ≡ placed p g)

abbrev pub FailsSecond : Program → Failure → Type 0
FailsSecond p f = (g : Failure) × FailsLate (hierarchy_in p).items (interface_trees p) g × (f ≡ placed p g)

-- the failures of clauses and of names `main` in interfaces
abbrev pub interfaces_fail : List (List ℕ) → List (Numbered InterfaceSyn) → List Failure
interfaces_fail table [] = []
interfaces_fail table (i ∷ is) = interface_items_fail table i.text i.tree.items ++ interfaces_fail table is

-- the failures of names, clauses and `main` in modules, outside bodies and initializers
abbrev pub modules_fail : List (List ℕ) → Items → List (Numbered ModuleSyn) → List Failure
modules_fail table items [] = []
modules_fail table items (m ∷ ms) = module_names_fail table items m.text m.tree ++ module_items_fail table m.text (head_items m.tree) ++ modules_fail table items ms

-- third: rules 2 to 5, 7, 10, 11 and 29 outside bodies and initializers
abbrev pub FailsThird : Program → Failure → Type 0
FailsThird p f =
    let items = (hierarchy_in p).items in
    let rows = interfaces_rows items 0 (interface_trees p) in
    IsIn f (interfaces_fail p.table p.interfaces ++ modules_fail p.table items p.modules)
    ⊎ ((g : Failure) × InheritingFails (full_numbers items) rows rows g × (f ≡ placed p g))
    ⊎ ((m : Numbered ModuleSyn) × IsIn m p.modules × InheritingFails (full_numbers items) (module_rows p.table items m.text m.tree ++ rows) (module_rows p.table items m.text m.tree) f)

-- what is known where a class of an interface inherits
abbrev pub interface_context : Program → ℕ → ClassInfo → Context
interface_context p text c = record {
  text = text;
  names = p.table;
  types = (hierarchy_in p).types;
  items = interface_items (hierarchy_in p).items [] (interface_trees p);
  visible = record { text = None; implements = None; uses = []; params = [] };
  clauses = c.clauses;
  sig = bare_sig 0;
  class = None;
}

-- the failures of the where-clauses of an inherited class, in an item of an interface
abbrev pub class_inherits_fail : Program → ℕ → Visible → InterfaceClassSyn → List Failure
class_inherits_fail p text v c =
    let info = class_info (hierarchy_in p).items (within v c.head.params) c.head c.init [] [] in
    inherits_fails (interface_context p text info) c.head.inherits info.inherits

abbrev pub item_inherits_fail : Program → ℕ → Visible → InterfaceItemSyn → List Failure
item_inherits_fail p text v (exception_item e) = []
item_inherits_fail p text v (type_item t) = []
item_inherits_fail p text v (class_item c) = class_inherits_fail p text v c
item_inherits_fail p text v (routine_item r) = []

abbrev pub items_inherit_fail : Program → ℕ → Visible → List InterfaceItemSyn → List Failure
items_inherit_fail p text v [] = []
items_inherit_fail p text v (i ∷ is) = item_inherits_fail p text v i ++ items_inherit_fail p text v is

-- fourth: all other rules, and rules 4 and 5 in bodies and initializers
abbrev pub FailsFourth : Program → Failure → Type 0
FailsFourth p f =
    ((i : Numbered InterfaceSyn) × IsIn i p.interfaces × IsIn f (items_inherit_fail p i.text (visible i.tree) i.tree.items))
    ⊎ ((m : Numbered ModuleSyn) × IsIn m p.modules × ModuleFails (judged m.text p.table (hierarchy_in p) (interface_trees p) m.tree) f)

-- the failure that is named: the least of the first stage in which something fails
abbrev pub IsNamed : List (Failure → Type 0) → Failure → Type 0
IsNamed [] f = ⊥
IsNamed (S ∷ Ss) f = IsLeastOf S (Some f) ⊎ (IsLeastOf S None × IsNamed Ss f)

-- nothing fails in any stage
abbrev pub NothingFails : List (Failure → Type 0) → Type 0
NothingFails [] = Unit {0}
NothingFails (S ∷ Ss) = IsLeastOf S None × NothingFails Ss

-- the stages in which the rules are judged
abbrev pub stages : Program → List (Failure → Type 0)
stages p = FailsFirst p ∷ FailsSecond p ∷ FailsThird p ∷ FailsFourth p ∷ []

-- the failure that a program's texts are refused by
abbrev pub RefusedBy : Program → Failure → Type 0
RefusedBy p f = IsNamed (stages p) f

-- every rule holds in a program's texts
abbrev pub RulesHold : Program → Type 0
RulesHold p = NothingFails (stages p)
