-- The items of a module, of which each is the first of its name, as they are found by name in its text.
use Rattle.std.specs.Prelude.{ℕ, List, [], ◌∷◌, ◌++◌, map, Option, Some, None, option_map, if◌then◌else◌}
use Rattle.th_tree.specs.Trees.{ClassSyn, ModuleItemSyn, module_class, module_routine}
use Rattle.th_type.specs.Declarations.{DeclaredType}
use Rattle.th_hier.specs.Naming.{Items, Visible, has, with_number, item_in}
use Rattle.th_rules.specs.Context.{ClassInfo, Item}
use Rattle.th_module_rules.specs.Contexts.{Base, base, item_with, module_item_name, own_class_info, own_head}

-- what a function gives of items, of each the first of its name, where none has a name that was seen before
abbrev pub of_first : {B : Type 0} → (ModuleItemSyn → List B) → List ℕ → List ModuleItemSyn → List B
of_first g seen [] = []
of_first g seen (i ∷ is) =
    if has seen (module_item_name i).name then of_first g seen is
    else g i ++ of_first g (with_number seen (module_item_name i).name) is

-- the number of the full name of an own item of a text
abbrev pub full_seen : Items → Visible → ℕ → Option ℕ
full_seen all v n = option_map (λ e. e.full) (item_in all v.text n)

-- what is asked of a class, where its full name has a number
abbrev pub base_with : Option ℕ → ClassInfo → List ℕ → List Base
base_with None c ms = []
base_with (Some full) c ms = base full c ms ∷ []

-- what is asked of a class of a module
abbrev pub class_base_seen : Items → Visible → ClassSyn → List Base
class_base_seen all v c = base_with (full_seen all v c.head.name.name) (own_class_info all v c []) (map (λ m. m.sig.name.name) c.methods)

abbrev pub base_seen : Items → Visible → ModuleItemSyn → List Base
base_seen all v (module_class c) = class_base_seen all v c
base_seen all v (module_routine r) = []

-- an item of a module
abbrev pub item_seen : List DeclaredType → List Base → Items → Visible → ModuleItemSyn → List Item
item_seen D bs all v i = item_with None (module_item_name i).name (full_seen all v (module_item_name i).name) (own_head D bs all v i)
