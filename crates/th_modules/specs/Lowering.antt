-- The least failure that is kept.
use Rattle.std.specs.Prelude.{◌≡◌, ◌⊎◌, List, [], ◌∷◌, Option, Some, None}
use Rattle.th_tree.specs.Trees.{ModuleItemSyn}
use Rattle.th_type.specs.declared.place.Failure.{Failure}
use Rattle.th_type.specs.Failures.{place, failure, IsLeastOf}
use Rattle.th_rules.specs.Context.{Item, find_item}
use Rattle.th_module_rules.specs.Contexts.{module_item_name}
use Rattle.th_module_rules.specs.Modules.{Judged, HeadFails, Redefined}

-- the second is the least of the first and of these failures
abbrev pub Lowers : (Failure → Type 0) → Option Failure → Option Failure → Type 0
Lowers P old new = IsLeastOf (λ g. (old ≡ Some g) ⊎ P g) new

-- f is a failure in an item of a module that is found by its name as i
abbrev pub FoundFails : Judged → ModuleItemSyn → Item → Failure → Type 0
FoundFails J x i f = HeadFails J i.full x i.head f ⊎ (Redefined J (module_item_name x).name i.head × (f ≡ failure 12 (place J.text (module_item_name x).at)))

-- f is a failure in an item of a module
abbrev pub ItemFails : Judged → ModuleItemSyn → Failure → Type 0
ItemFails J x f = (i : Item) × (find_item J.items None (module_item_name x).name ≡ Some i) × FoundFails J x i f

-- f is a failure in one of the items
abbrev pub InItems : Judged → List ModuleItemSyn → Failure → Type 0
InItems J [] f = ⊥
InItems J (x ∷ xs) f = ItemFails J x f ⊎ InItems J xs f
