-- The failures of clauses and of `main`, by the number of this name.
use Rattle.std.specs.Prelude.{ℕ, nat_eq, not, ◌||◌, List, [], ◌∷◌, ◌++◌}
use Rattle.th_tree.specs.Trees.{InterfaceItemSyn}
use Rattle.th_type.specs.declared.place.Failure.{Failure}
use Rattle.th_type.specs.Failures.{place, unless}
use Rattle.th_hier.specs.Spots.{item_name}
use Rattle.th_module_rules.specs.Clauses.{is_plain_routine, item_clauses_fail}

-- the failures in an item of an interface, or of a module
abbrev pub interface_item_fails_by : ℕ → ℕ → InterfaceItemSyn → List Failure
interface_item_fails_by main text i = item_clauses_fail text i ++ unless (not (nat_eq (item_name i).name main)) 29 (place text (item_name i).at)

abbrev pub module_item_fails_by : ℕ → ℕ → InterfaceItemSyn → List Failure
module_item_fails_by main text i = item_clauses_fail text i ++ unless (not (nat_eq (item_name i).name main) || is_plain_routine i) 29 (place text (item_name i).at)

-- the failures in items
abbrev pub interface_items_fail_by : ℕ → ℕ → List InterfaceItemSyn → List Failure
interface_items_fail_by main text [] = []
interface_items_fail_by main text (i ∷ is) = interface_item_fails_by main text i ++ interface_items_fail_by main text is

abbrev pub module_items_fail_by : ℕ → ℕ → List InterfaceItemSyn → List Failure
module_items_fail_by main text [] = []
module_items_fail_by main text (i ∷ is) = module_item_fails_by main text i ++ module_items_fail_by main text is
