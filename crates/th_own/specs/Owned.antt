-- The own items of a module as they are added, and what can be seen in it.
use Rattle.std.specs.Prelude.{ℕ, List, [], ◌∷◌, ◌++◌, map, Option, Some}
use Rattle.th_tree.specs.Names.{place_of}
use Rattle.th_tree.specs.Trees.{InterfaceItemSyn, ModuleSyn}
use Rattle.th_hier.specs.declared.item.ItemName.{ItemName}
use Rattle.th_hier.specs.declared.item.Entry.{Entry}
use Rattle.th_hier.specs.Naming.{Items, Visible, different, item_in}
use Rattle.th_hier.specs.Numbering.{item_sort, name_bytes}
use Rattle.th_hier.specs.Spots.{item_name}
use Rattle.th_module_rules.specs.Own.{full_or, implemented}
use Rattle.th_heads.specs.Adding.{with_own}

-- the name of an own item, under the number of the module's own items
abbrev pub own_key : ℕ → InterfaceItemSyn → ItemName
own_key scope i = record { interface = scope; name = (item_name i).name }

-- an own item of the module with this number, which may implement an interface
abbrev pub own_entry : List (List ℕ) → Items → ℕ → Option ℕ → InterfaceItemSyn → Entry
own_entry table items program implements i = record {
  full = full_or (place_of table (name_bytes table program ++ 47 ∷ name_bytes table (item_name i).name)) (item_in items implements (item_name i).name);
  sort = item_sort i;
}

-- the items after those so far
abbrev pub owned : List (List ℕ) → Items → ℕ → ℕ → Option ℕ → Items → List InterfaceItemSyn → Items
owned table items scope program implements own [] = own
owned table items scope program implements own (i ∷ is) = owned table items scope program implements (with_own own (own_key scope i) (own_entry table items program implements i)) is

-- what can be seen in a module outside its items, where its own items stand under this number
abbrev pub visible_under : ℕ → ModuleSyn → Visible
visible_under scope m = record { text = Some scope; implements = implemented m; uses = different (map (λ u. u.name) m.uses); params = [] }
