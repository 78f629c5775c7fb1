-- The names that a table must have for items to have numbers as private ones.
use Rattle.std.specs.Prelude.{◌≡◌, List, [], ◌∷◌, ◌++◌, ℕ, true}
use Rattle.th_tree.specs.Trees.{InterfaceItemSyn}
use Rattle.th_tree.specs.Names.{is_there}
use Rattle.th_hier.specs.Numbering.{name_bytes}
use Rattle.th_hier.specs.Spots.{item_name}

-- the table has the full names that items of the module with this number have as private ones
abbrev pub AllThere : List (List ℕ) → ℕ → List InterfaceItemSyn → Type 0
AllThere table program [] = Unit {0}
AllThere table program (i ∷ is) = (is_there table (name_bytes table program ++ 47 ∷ name_bytes table (item_name i).name) ≡ true) × AllThere table program is
