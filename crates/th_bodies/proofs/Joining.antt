-- What is judged of modules, one after another, and of interfaces before them.
use Rattle.std.proofs.Common.{◌≡◌, ℕ, List, [], ◌∷◌, ◌++◌, Option, Some, None, is_some, refl, sym, ap, ◌∙◌, subst, ◌⊎◌, inl, inr, true≢false, true}
use Rattle.std.specs.Global.{Vec}
use Rattle.th_tree.specs.Trees.{InterfaceItemSyn, exception_item, type_item, class_item, routine_item, InterfaceSyn, ModuleSyn}
use Rattle.th_type.specs.declared.place.Failure.{Failure}
use Rattle.th_type.specs.Failures.{lowest, IsLeastOf}
use Rattle.th_type.specs.Lists.{IsIn}
use Rattle.th_type.proofs.Least.{least_alike}
use Rattle.th_type.proofs.Members.{from_append, in_left, in_right}
use Rattle.th_hier.specs.Naming.{Visible}
use Rattle.th_hier.specs.Texts.{visible}
use Rattle.th_rules.specs.Context.{Item}
use Rattle.th_meaning.specs.declared.declared.CoreUnit.{CoreUnit}
use Rattle.th_module_rules.specs.Contexts.{interface_items}
use Rattle.th_module_rules.specs.Modules.{Judged, ModuleFails}
use Rattle.th_module_rules.specs.Stages.{Numbered, Program, FailsFourth, hierarchy_in, interface_trees, item_inherits_fail, items_inherit_fail}
use Rattle.th_module_rules.specs.Units.{module_units}
use Rattle.th_contexts.specs.declared.known.Known.{Known}
use Rattle.th_modules.specs.Lowering.{Lowers}
use Rattle.th_modules.proofs.Lowering.{lowers_alike, lowers_both, lowers_list, lowers_none}
use Rattle.th_modules.specs.Own.{AreOwn}
use Rattle.th_bodies.specs.Bodies.{judged_in, UnitsOf}
use Rattle.th_bodies.specs.Exported.{item_fails_by, items_fail_by, interfaces_fail_by}
use Rattle.th_bodies.specs.Judging.{ModulesFail, UnitsHere}

module _ (g : Numbered ModuleSyn → Judged) where
  -- no module is left
  pub none_left : (o : Option Failure) → Lowers (ModulesFail g []) o o
  none_left o = lowers_none (ModulesFail g []) o (λ f q. q.1)

  first_fails : (m : Numbered ModuleSyn) (ms : List (Numbered ModuleSyn)) (f : Failure) → ModuleFails (g m) f ⊎ ModulesFail g ms f → ModulesFail g (m ∷ ms) f
  first_fails m ms f (inl h) = (m, inl refl, h)
  first_fails m ms f (inr (n, i, h)) = (n, inr i, h)

  parts_fail : (m : Numbered ModuleSyn) (ms : List (Numbered ModuleSyn)) (f : Failure) → ModulesFail g (m ∷ ms) f → ModuleFails (g m) f ⊎ ModulesFail g ms f
  parts_fail m ms f (n, inl e, h) = inl (subst (λ (k : Numbered ModuleSyn). ModuleFails (g k) f) e h)
  parts_fail m ms f (n, inr i, h) = inr (n, i, h)

  -- with the failures of a module before those of the others
  pub next_lowers : (m : Numbered ModuleSyn) (ms : List (Numbered ModuleSyn)) (o mid new : Option Failure) → Lowers (ModuleFails (g m)) o mid → Lowers (ModulesFail g ms) mid new → Lowers (ModulesFail g (m ∷ ms)) o new
  next_lowers m ms o mid new a b =
      lowers_alike (λ f. ModuleFails (g m) f ⊎ ModulesFail g ms f) (ModulesFail g (m ∷ ms)) o new (first_fails m ms) (parts_fail m ms) (lowers_both (ModuleFails (g m)) (ModulesFail g ms) o mid new a b)

-- the failures in classes of interfaces
module _ (p : Program) where
  abbrev outer : List Item
  outer = interface_items (hierarchy_in p).items [] (interface_trees p)

  item_by : (text : ℕ) (v : Visible) (i : InterfaceItemSyn) → item_inherits_fail p text v i ≡ item_fails_by p.table (hierarchy_in p) outer text v i
  item_by text v (exception_item e) = refl
  item_by text v (type_item t) = refl
  item_by text v (class_item c) = refl
  item_by text v (routine_item r) = refl

  items_by : (text : ℕ) (v : Visible) (is : List InterfaceItemSyn) → items_inherit_fail p text v is ≡ items_fail_by p.table (hierarchy_in p) outer text v is
  items_by text v [] = refl
  items_by text v (i ∷ is) =
      ap (λ (fs : List Failure). fs ++ items_inherit_fail p text v is) (item_by text v i) ∙ ap (λ (fs : List Failure). item_fails_by p.table (hierarchy_in p) outer text v i ++ fs) (items_by text v is)

  abbrev OuterFail : List (Numbered InterfaceSyn) → Failure → Type 0
  OuterFail is f = (i : Numbered InterfaceSyn) × IsIn i is × IsIn f (items_inherit_fail p i.text (visible i.tree) i.tree.items)

  abbrev by : List (Numbered InterfaceSyn) → List Failure
  by is = interfaces_fail_by p.table (hierarchy_in p) outer is

  outer_forth : (is : List (Numbered InterfaceSyn)) (f : Failure) → IsIn f (by is) → OuterFail is f
  outer_forth [] f h = absurd h
  outer_forth (i ∷ is) f h = elim (from_append f (items_fail_by p.table (hierarchy_in p) outer i.text (visible i.tree) i.tree.items) (by is) h) [
    | inl a ↦ (i, inl refl, subst (λ (fs : List Failure). IsIn f fs) (sym (items_by i.text (visible i.tree) i.tree.items)) a)
    | inr b ↦ let q = outer_forth is f b in (q.0, inr q.1, q.2)
  ]

  outer_back : (is : List (Numbered InterfaceSyn)) (f : Failure) (i : Numbered InterfaceSyn) → IsIn i is → IsIn f (items_inherit_fail p i.text (visible i.tree) i.tree.items) → IsIn f (by is)
  outer_back [] f i m h = absurd m
  outer_back (j ∷ is) f i (inl e) h =
      in_left f (items_fail_by p.table (hierarchy_in p) outer j.text (visible j.tree) j.tree.items) (by is)
      (subst (λ (fs : List Failure). IsIn f fs) (items_by j.text (visible j.tree) j.tree.items) (subst (λ (k : Numbered InterfaceSyn). IsIn f (items_inherit_fail p k.text (visible k.tree) k.tree.items)) e h))
  outer_back (j ∷ is) f i (inr m) h = in_right f (items_fail_by p.table (hierarchy_in p) outer j.text (visible j.tree) j.tree.items) (by is) (outer_back is f i m h)

  no_failure : (f : Failure) → None ≡ Some f → ⊥
  no_failure f h = cc

  -- the least failure of interfaces, and then of modules
  pub fourth_least : (mid new : Option Failure) → mid ≡ lowest None (by p.interfaces) → Lowers (ModulesFail (judged_in p) p.modules) mid new → IsLeastOf (FailsFourth p) new
  fourth_least mid new e h =
      let lists : Failure → Type 0 = λ f. IsIn f (by p.interfaces) in
      least_alike (λ f. (None ≡ Some f) ⊎ (lists f ⊎ ModulesFail (judged_in p) p.modules f)) (FailsFourth p) new
      (λ f q. elim q [ inl n ↦ absurd (no_failure f n) | inr r ↦ elim r [ inl a ↦ inl (outer_forth p.interfaces f a) | inr b ↦ inr b ] ])
      (λ f q. elim q [ inl a ↦ inr (inl (outer_back p.interfaces f a.0 a.1 a.2)) | inr b ↦ inr (inr b) ])
      (lowers_both lists (ModulesFail (judged_in p) p.modules) None mid new (lowers_list None mid (by p.interfaces) e) h)

  some_there : {A : Type 0} (o : Option A) → is_some o ≡ true → (a : A) × (o ≡ Some a)
  some_there None h = absurd (true≢false (sym h))
  some_there (Some a) h = (a, refl)

  -- a module that is found as its items say and has units
  abbrev pub Makes : Judged → Type 0
  Makes J = AreOwn J × (is_some (module_units J) ≡ true)

  -- the units of modules
  pub units_of_all : (ms : List (Numbered ModuleSyn)) (us : List (Vec CoreUnit)) (ks : List Known) → ((m : Numbered ModuleSyn) → IsIn m ms → Makes (judged_in p m)) → UnitsHere (judged_in p) ms us ks → UnitsOf p ms us ks
  units_of_all [] [] [] h u = tt
  units_of_all [] [] (k ∷ ks) h u = u
  units_of_all [] (x ∷ us) ks h u = u
  units_of_all (m ∷ ms) [] ks h u = u
  units_of_all (m ∷ ms) (x ∷ us) [] h u = u
  units_of_all (m ∷ ms) (x ∷ us) (k ∷ ks) h u =
      let makes = h m (inl refl) in
      let units = some_there (module_units (judged_in p m)) makes.1 in
      (units.1 ∙ ap Some (sym (u.0.0 makes.0 units.0 units.1)), u.0.1, units_of_all ms us ks (λ n i. h n (inr i)) u.1)
