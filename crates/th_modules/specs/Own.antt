-- Items that are found by their names as what their own heads say, as where the items of a module have different names.
use Rattle.std.specs.Prelude.{◌≡◌, List, Some, None}
use Rattle.th_tree.specs.Trees.{ModuleItemSyn, module_class, module_routine}
use Rattle.th_type.specs.Lists.{IsIn}
use Rattle.th_rules.specs.Context.{Head, routine_head, Item, find_item}
use Rattle.th_module_rules.specs.Contexts.{module_item_name}
use Rattle.th_module_rules.specs.Modules.{Judged}
use Rattle.th_modules.specs.View.{info_of}

-- the head of a routine is what its tree says
abbrev pub HasOwnHead : Judged → ModuleItemSyn → Head → Type 0
HasOwnHead J (module_class c) h = Unit {0}
HasOwnHead J (module_routine r) h = h ≡ routine_head (info_of J r)

-- an item is found by its name, if it is, with its own head
abbrev pub IsOwn : Judged → ModuleItemSyn → Type 0
IsOwn J x = (i : Item) → find_item J.items None (module_item_name x).name ≡ Some i → HasOwnHead J x i.head

-- each of the items is
abbrev pub AllOwn : Judged → List ModuleItemSyn → Type 0
AllOwn J xs = (x : ModuleItemSyn) → IsIn x xs → IsOwn J x

abbrev pub AreOwn : Judged → Type 0
AreOwn J = AllOwn J J.tree.items
