-- The full names of items, and a table with them.
use Rattle.std.specs.Prelude.{◌≡◌, ℕ, List, [], ◌∷◌, ◌++◌, codes, map}
use Rattle.std.specs.List.{flat_map}
use Rattle.th_tree.specs.Names.{with_name}
use Rattle.th_tree.specs.Trees.{InterfaceItemSyn, InterfaceSyn, ModuleSyn}
use Rattle.th_hier.specs.Numbering.{Grown, name_bytes}
use Rattle.th_hier.specs.Spots.{item_name}
use Rattle.th_module_rules.specs.Own.{head_items}

-- a table with further names, in order, each of which goes last where it is not there
abbrev pub with_names : List (List ℕ) → List (List ℕ) → List (List ℕ)
with_names table [] = table
with_names table (n ∷ ns) = with_names (with_name table n) ns

-- two names with a byte between them
abbrev pub joined : List (List ℕ) → ℕ → ℕ → ℕ → List ℕ
joined table a between b = name_bytes table a ++ between ∷ name_bytes table b

-- the names of items behind that of their text and the byte
abbrev pub names_behind : List (List ℕ) → ℕ → ℕ → List InterfaceItemSyn → List (List ℕ)
names_behind table n between is = map (λ i. joined table n between (item_name i).name) is

-- the full names of the items of an interface, and of interfaces
abbrev pub names_in_interface : List (List ℕ) → InterfaceSyn → List (List ℕ)
names_in_interface table f = names_behind table f.name.name 36 f.items

abbrev pub names_in_interfaces : List (List ℕ) → List InterfaceSyn → List (List ℕ)
names_in_interfaces table fs = flat_map (names_in_interface table) fs

-- the name under which a module's own items stand, and their names as private ones; the same of modules
abbrev pub names_in_module : List (List ℕ) → ModuleSyn → List (List ℕ)
names_in_module table m = (name_bytes table m.name.name ++ 47 ∷ []) ∷ names_behind table m.name.name 47 (head_items m)

abbrev pub names_in_modules : List (List ℕ) → List ModuleSyn → List (List ℕ)
names_in_modules table ms = flat_map (names_in_module table) ms

-- `main`, and the names of all items of interfaces and modules, in order, over the table that has the names in their trees
abbrev pub full_names : List (List ℕ) → List InterfaceSyn → List ModuleSyn → List (List ℕ)
full_names table fs ms = codes "main" ∷ names_in_interfaces table fs ++ names_in_modules table ms

-- the table with them
abbrev pub with_full_names : List (List ℕ) → List InterfaceSyn → List ModuleSyn → List (List ℕ)
with_full_names table fs ms = with_names table (full_names table fs ms)

-- to the list were added the names that these are over the table, and over any longer one
abbrev pub Adds : List (List ℕ) → (List (List ℕ) → List (List ℕ)) → List (List ℕ) → List (List ℕ) → Type 0
Adds table names old new = (t : List (List ℕ)) → Grown table t → new ≡ old ++ names t
