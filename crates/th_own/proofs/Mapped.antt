-- The names of items where they stand.
use Rattle.std.proofs.Common.{◌≡◌, ℕ, List, [], ◌∷◌, map, refl, ap}
use Rattle.th_tree.specs.declared.decl.ModuleItem.{ModuleItem}
use Rattle.th_tree.specs.DeclView.{module_item_of}
use Rattle.th_hier.specs.Spots.{spot_at, item_name, item_spots}
use Rattle.th_module_rules.specs.Own.{head_item}

pub items_mapped : (text : ℕ) (is : List ModuleItem) → item_spots text (map head_item (map module_item_of is)) ≡ map (λ i. spot_at text (item_name (head_item (module_item_of i)))) is
items_mapped text [] = refl
items_mapped text (i ∷ is) = ap (λ r. spot_at text (item_name (head_item (module_item_of i))) ∷ r) (items_mapped text is)
