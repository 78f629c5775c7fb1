-- The items of a module: their names, and what can be seen in the module.
use Rattle.std.specs.Prelude.{ℕ, Bool, true, false, List, [], ◌∷◌, ◌++◌, map, Option, Some, None, option_map, if◌then◌else◌}
use Rattle.th_tree.specs.Names.{place_of}
use Rattle.th_tree.specs.Trees.{ClassSyn, InterfaceItemSyn, class_item, routine_item, ModuleItemSyn, module_class, module_routine, ModuleSyn}
use Rattle.th_type.specs.declared.place.Failure.{Failure}
use Rattle.th_type.specs.Failures.{place, unless}
use Rattle.th_hier.specs.declared.item.Sort.{Sort}
use Rattle.th_hier.specs.declared.item.Sort.TheVariants.{Class, Routine, Iterator}
use Rattle.th_hier.specs.declared.item.Entry.{Entry}
use Rattle.th_hier.specs.Naming.{Items, Visible, has, with_number, different, item_in}
use Rattle.th_hier.specs.Numbering.{name_bytes, item_sort}
use Rattle.th_hier.specs.Spots.{repeats, formal_spots, item_name, item_spots}
use Rattle.th_hier.specs.Resolve.{types_fails}
use Rattle.th_hier.specs.Heads.{formal_types}
use Rattle.th_hier.specs.Texts.{within, items_fail}

-- an item of a module without its bodies, as an interface has it
abbrev pub head_item : ModuleItemSyn → InterfaceItemSyn
head_item (module_class c) = class_item (record { head = c.head; hidden = map (λ m. m.sig) c.methods; init = c.init.head })
head_item (module_routine r) = routine_item r.head

-- the items of a module without their bodies
abbrev pub head_items : ModuleSyn → List InterfaceItemSyn
head_items m = map head_item m.items

-- the number of the implemented interface's name
abbrev pub implemented : ModuleSyn → Option ℕ
implemented m = option_map (λ i. i.name) m.implements

-- the number under which a module's own items stand: that of the module's name with `/` after it
abbrev pub own_scope : List (List ℕ) → ModuleSyn → ℕ
own_scope table m = place_of table (name_bytes table m.name.name ++ 47 ∷ [])

-- the number of the full name of a private item
abbrev pub private_full : List (List ℕ) → ModuleSyn → ℕ → ℕ
private_full table m n = place_of table (name_bytes table m.name.name ++ 47 ∷ name_bytes table n)

-- the number of the full name of an item: that of the implemented interface's item of its name, else the private one
abbrev pub full_or : ℕ → Option Entry → ℕ
full_or private None = private
full_or private (Some e) = e.full

abbrev pub own_full : List (List ℕ) → Items → ModuleSyn → ℕ → ℕ
own_full table items m n = full_or (private_full table m n) (item_in items (implemented m) n)

-- the items of a module by name, each the first of its name
abbrev pub own_items : List (List ℕ) → Items → ModuleSyn → List ℕ → List InterfaceItemSyn → Items
own_items table items m seen [] = []
own_items table items m seen (i ∷ is) =
    if has seen (item_name i).name then own_items table items m seen is
    else (record { interface = own_scope table m; name = (item_name i).name }, record { full = own_full table items m (item_name i).name; sort = item_sort i })
    ∷ own_items table items m (with_number seen (item_name i).name) is

-- the items that can be found by name in a module: its own, and those of interfaces
abbrev pub all_items : List (List ℕ) → Items → ModuleSyn → Items
all_items table items m = own_items table items m [] (head_items m) ++ items

-- what can be seen in a module, outside its items
abbrev pub module_visible : List (List ℕ) → ModuleSyn → Visible
module_visible table m = record { text = Some (own_scope table m); implements = implemented m; uses = different (map (λ u. u.name) m.uses); params = [] }

-- whether both are classes, both routines or both iterators
abbrev pub same_kind : Sort → Sort → Bool
same_kind (Class k) (Class l) = true
same_kind (Routine k) (Routine l) = true
same_kind (Iterator k) (Iterator l) = true
same_kind _ _ = false

-- whether an item is of the kind of the implemented interface's item of its name, where there is one
abbrev pub kind_fits : Option Entry → Sort → Bool
kind_fits None s = true
kind_fits (Some e) s = same_kind e.sort s

-- the failures of items whose names the implemented interface has for something else
abbrev pub kinds_fail : Items → Option ℕ → ℕ → List InterfaceItemSyn → List Failure
kinds_fail items implements text [] = []
kinds_fail items implements text (i ∷ is) =
    unless (kind_fits (item_in items implements (item_name i).name) (item_sort i)) 2 (place text (item_name i).at) ++ kinds_fail items implements text is

-- the failures of the fields of a class: they have different names, and their types resolve
abbrev pub fields_fail : Items → Visible → ℕ → ClassSyn → List Failure
fields_fail all v text c = repeats 3 [] (formal_spots text c.fields) ++ types_fails all (within v c.head.params) text (formal_types c.fields)

abbrev pub item_fields_fail : Items → Visible → ℕ → ModuleItemSyn → List Failure
item_fields_fail all v text (module_class c) = fields_fail all v text c
item_fields_fail all v text (module_routine r) = []

abbrev pub all_fields_fail : Items → Visible → ℕ → List ModuleItemSyn → List Failure
all_fields_fail all v text [] = []
all_fields_fail all v text (i ∷ is) = item_fields_fail all v text i ++ all_fields_fail all v text is

-- the failures of the rules on names in a module outside bodies and initializers: its items have different names and are of
-- the kinds that the implemented interface gives them; in their heads and fields no rule on names fails
abbrev pub module_names_fail : List (List ℕ) → Items → ℕ → ModuleSyn → List Failure
module_names_fail table items text m =
    repeats 2 [] (item_spots text (head_items m)) ++ kinds_fail items (implemented m) text (head_items m)
    ++ items_fail (all_items table items m) (module_visible table m) text (head_items m)
    ++ all_fields_fail (all_items table items m) (module_visible table m) text m.items
