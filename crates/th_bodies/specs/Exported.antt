-- The failures in the classes of interfaces, by the table, the hierarchy and the items of these.
use Rattle.std.specs.Prelude.{ℕ, List, [], ◌∷◌, ◌++◌, None}
use Rattle.th_tree.specs.Trees.{InterfaceClassSyn, InterfaceItemSyn, exception_item, type_item, class_item, routine_item, InterfaceSyn}
use Rattle.th_type.specs.declared.place.Failure.{Failure}
use Rattle.th_hier.specs.Hierarchies.{TypeHierarchy}
use Rattle.th_hier.specs.Naming.{Visible}
use Rattle.th_hier.specs.Texts.{visible, within}
use Rattle.th_rules.specs.Context.{ClassInfo, Context, Item}
use Rattle.th_module_rules.specs.Contexts.{bare_sig, class_info}
use Rattle.th_module_rules.specs.Modules.{inherits_fails}
use Rattle.th_module_rules.specs.Stages.{Numbered}

-- what is known where a class of an interface inherits
abbrev pub outside : List (List ℕ) → TypeHierarchy → List Item → ℕ → ClassInfo → Context
outside table h items text c = record {
  text = text;
  names = table;
  types = h.types;
  items = items;
  visible = record { text = None; implements = None; uses = []; params = [] };
  clauses = c.clauses;
  sig = bare_sig 0;
  class = None;
}

-- the failures of the where-clauses of the class that a class inherits
abbrev pub class_fails_by : List (List ℕ) → TypeHierarchy → List Item → ℕ → Visible → InterfaceClassSyn → List Failure
class_fails_by table h items text v c =
    let info = class_info h.items (within v c.head.params) c.head c.init [] [] in
    inherits_fails (outside table h items text info) c.head.inherits info.inherits

-- the same of an item of an interface
abbrev pub item_fails_by : List (List ℕ) → TypeHierarchy → List Item → ℕ → Visible → InterfaceItemSyn → List Failure
item_fails_by table h items text v (exception_item e) = []
item_fails_by table h items text v (type_item t) = []
item_fails_by table h items text v (class_item c) = class_fails_by table h items text v c
item_fails_by table h items text v (routine_item r) = []

-- of items of an interface
abbrev pub items_fail_by : List (List ℕ) → TypeHierarchy → List Item → ℕ → Visible → List InterfaceItemSyn → List Failure
items_fail_by table h items text v [] = []
items_fail_by table h items text v (i ∷ is) = item_fails_by table h items text v i ++ items_fail_by table h items text v is

-- of interfaces
abbrev pub interfaces_fail_by : List (List ℕ) → TypeHierarchy → List Item → List (Numbered InterfaceSyn) → List Failure
interfaces_fail_by table h items [] = []
interfaces_fail_by table h items (i ∷ is) = items_fail_by table h items i.text (visible i.tree) i.tree.items ++ interfaces_fail_by table h items is
