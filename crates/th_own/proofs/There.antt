-- The names of items that a table has.
use Rattle.std.proofs.Common.{◌≡◌, ℕ, true, List, [], ◌∷◌, ◌++◌, inl, inr, refl}
use Rattle.th_tree.specs.Names.{is_there}
use Rattle.th_tree.specs.Trees.{InterfaceItemSyn}
use Rattle.th_type.specs.Lists.{IsIn}
use Rattle.th_hier.specs.Numbering.{name_bytes}
use Rattle.th_hier.specs.Spots.{item_name}
use Rattle.th_own.specs.Named.{AllThere}

pub all_there : (table : List (List ℕ)) (program : ℕ) (is : List InterfaceItemSyn)
    → ((i : InterfaceItemSyn) → IsIn i is → is_there table (name_bytes table program ++ 47 ∷ name_bytes table (item_name i).name) ≡ true)
    → AllThere table program is
all_there table program [] h = tt
all_there table program (i ∷ is) h = (h i (inl refl), all_there table program is (λ j m. h j (inr m)))
