-- An item of a module that is found by its name.
use Rattle.std.proofs.Common.{◌≡◌, ◌↔◌, Bool, not, IsTrue, List, Option, Some, None, sym, ◌∙◌, ap, subst}
use Rattle.th_tree.specs.Trees.{ModuleItemSyn}
use Rattle.th_type.specs.declared.place.Failure.{Failure}
use Rattle.th_type.specs.Failures.{failure, lowest, place, unless}
use Rattle.th_meaning.specs.Program.{ProgramUnit}
use Rattle.th_rules.specs.Context.{Item, find_item}
use Rattle.th_overrides.proofs.Leasts.{least_one}
use Rattle.th_module_rules.specs.Contexts.{module_item_name}
use Rattle.th_module_rules.specs.Modules.{HeadFails, Judged, Redefined}
use Rattle.th_module_rules.specs.Units.{item_units}
use Rattle.th_modules.specs.Lowering.{FoundFails, ItemFails, Lowers}
use Rattle.th_modules.specs.Own.{HasOwnHead, IsOwn}
use Rattle.th_modules.proofs.Lowering.{lowers_alike, lowers_both, lowers_none}

some_is : {A : Type 0} (a b : A) → Some a ≡ Some b → a ≡ b
some_is a b h = cc

none_some : {A : Type 0} (a : A) → None ≡ Some a → ⊥
none_some a h = cc

module _ (J : Judged) (x : ModuleItemSyn) where
  abbrev found : Option Item
  found = find_item J.items None (module_item_name x).name

  -- nothing fails in an item that is not found
  pub absent_kept : (o : Option Failure) → found ≡ None → Lowers (ItemFails J x) o o
  absent_kept o e = lowers_none (ItemFails J x) o (λ g h. none_some h.0 (sym e ∙ h.1))

  -- the failures of an item that is found as i
  pub found_kept : (i : Item) (o mid new : Option Failure) (b : Bool) → Lowers (HeadFails J i.full x i.head) o mid → IsTrue b ↔ Redefined J (module_item_name x).name i.head
      → new ≡ lowest mid (unless (not b) 12 (place J.text (module_item_name x).at)) → Lowers (FoundFails J x i) o new
  found_kept i o mid new b kept decides e =
      lowers_both (HeadFails J i.full x i.head) (λ f. Redefined J (module_item_name x).name i.head × (f ≡ failure 12 (place J.text (module_item_name x).at))) o mid new kept
      (least_one (Redefined J (module_item_name x).name i.head) mid new 12 (place J.text (module_item_name x).at) b decides e)

  pub item_kept : (i : Item) (o new : Option Failure) → found ≡ Some i → Lowers (FoundFails J x i) o new → Lowers (ItemFails J x) o new
  item_kept i o new is kept =
      lowers_alike (FoundFails J x i) (ItemFails J x) o new (λ g q. (i, is, q)) (λ g q. subst (λ (k : Item). FoundFails J x k g) (some_is q.0 i (sym q.1 ∙ is)) q.2) kept

  -- the units of the item that is found
  pub item_units_are : (i : Item) (new : Option Failure) (us : Option (List ProgramUnit)) → found ≡ Some i → (HasOwnHead J x i.head → new ≡ None → us ≡ item_units J x (Some i))
      → IsOwn J x → new ≡ None → us ≡ item_units J x found
  item_units_are i new us is units own none = units (own i is) none ∙ ap (item_units J x) (sym is)

  -- no unit of an item that is not found
  pub absent_units : found ≡ None → None ≡ item_units J x found
  absent_units e = ap (item_units J x) (sym e)
