-- The failures of `main` by its number.
use Rattle.std.proofs.Common.{◌≡◌, ℕ, List, [], ◌∷◌, ◌++◌, refl, ap}
use Rattle.th_tree.specs.Trees.{InterfaceItemSyn}
use Rattle.th_type.specs.declared.place.Failure.{Failure}
use Rattle.th_module_rules.specs.Clauses.{interface_item_fails, interface_items_fail, main_number, module_item_fails, module_items_fail}
use Rattle.th_own.specs.Mains.{interface_items_fail_by, module_items_fail_by}

pub interface_fails_are : (table : List (List ℕ)) (text : ℕ) (is : List InterfaceItemSyn) → interface_items_fail_by (main_number table) text is ≡ interface_items_fail table text is
interface_fails_are table text [] = refl
interface_fails_are table text (i ∷ is) = ap (λ (fs : List Failure). interface_item_fails table text i ++ fs) (interface_fails_are table text is)

pub module_fails_are : (table : List (List ℕ)) (text : ℕ) (is : List InterfaceItemSyn) → module_items_fail_by (main_number table) text is ≡ module_items_fail table text is
module_fails_are table text [] = refl
module_fails_are table text (i ∷ is) = ap (λ (fs : List Failure). module_item_fails table text i ++ fs) (module_fails_are table text is)
