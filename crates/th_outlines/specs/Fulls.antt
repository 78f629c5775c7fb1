-- The numbers of the full names of the items of interfaces, as they are found by name.
use Rattle.std.specs.Prelude.{ℕ, List, [], ◌∷◌, Option, Some, None}
use Rattle.th_tree.specs.Trees.{InterfaceItemSyn, InterfaceSyn}
use Rattle.th_hier.specs.declared.item.Entry.{Entry}
use Rattle.th_hier.specs.Naming.{Items, with_number, item_in}
use Rattle.th_hier.specs.Spots.{item_name}

-- the numbers with that of an item, where it is there
abbrev pub with_entry : List ℕ → Option Entry → List ℕ
with_entry ns None = ns
with_entry ns (Some e) = with_number ns e.full

-- with those of items of the interface i
abbrev pub with_items : Items → List ℕ → ℕ → List InterfaceItemSyn → List ℕ
with_items items ns i [] = ns
with_items items ns i (x ∷ xs) = with_items items (with_entry ns (item_in items (Some i) (item_name x).name)) i xs

-- with those of the items of interfaces
abbrev pub with_interfaces : Items → List ℕ → List InterfaceSyn → List ℕ
with_interfaces items ns [] = ns
with_interfaces items ns (f ∷ fs) = with_interfaces items (with_items items ns f.name.name f.items) fs
