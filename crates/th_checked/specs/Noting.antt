-- Where the heads of declared classes stand, as they are noted from the first text to the last.
use Rattle.std.specs.Prelude.{ℕ, List, [], ◌∷◌, Option, Some, None, is_some, if◌then◌else◌}
use Rattle.std.specs.Map.{lookup}
use Rattle.indexmap.specs.IndexMap.{insert_entry}
use Rattle.th_tree.specs.Trees.{InterfaceItemSyn, exception_item, type_item, class_item, routine_item, InterfaceSyn}
use Rattle.th_type.specs.declared.place.Place.{Place}
use Rattle.th_type.specs.Failures.{place}
use Rattle.th_hier.specs.declared.item.ItemName.{ItemName}
use Rattle.th_hier.specs.Naming.{same_item}
use Rattle.th_module_rules.specs.Stages.{Numbered}

-- classes of interfaces, each with the place of its head
abbrev pub Places : Type 0
Places = List (ItemName × Place)

-- the place of a name, and of class n of an interface that there may be
abbrev pub place_at : Places → ItemName → Option Place
place_at es key = lookup (same_item key) es

abbrev pub head_place : Places → Option ℕ → ℕ → Option Place
head_place es None n = None
head_place es (Some i) n = place_at es (record { interface = i; name = n })

-- with a further class, unless one has its name
abbrev pub with_place : Places → ItemName → Place → Places
with_place es key at = if is_some (place_at es key) then es else insert_entry same_item es key at

-- with the class that an item of the interface of this text and name is, and with those of all items
abbrev pub with_head : ℕ → ℕ → Places → InterfaceItemSyn → Places
with_head text i es (exception_item e) = es
with_head text i es (type_item t) = es
with_head text i es (class_item c) = with_place es (record { interface = i; name = c.head.name.name }) (place text c.head.at)
with_head text i es (routine_item r) = es

abbrev pub with_heads : ℕ → ℕ → Places → List InterfaceItemSyn → Places
with_heads text i es [] = es
with_heads text i es (x ∷ xs) = with_heads text i (with_head text i es x) xs

-- with those of all interfaces
abbrev pub with_all : Places → List (Numbered InterfaceSyn) → Places
with_all es [] = es
with_all es (f ∷ fs) = with_all (with_heads f.text f.tree.name.name es f.tree.items) fs
