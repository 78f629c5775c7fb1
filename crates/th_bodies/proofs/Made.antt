-- A module in which nothing fails has units.
use Rattle.std.proofs.Common.{◌≡◌, ℕ, true, List, [], ◌∷◌, ◌++◌, map, Option, Some, None, option_map, is_some, refl, sym, ap, ◌∙◌, subst, inl, inr}
use Rattle.th_tree.specs.declared.tree.Ident.{Ident}
use Rattle.th_tree.specs.declared.tree.RefTree.{RefTree}
use Rattle.th_tree.specs.Trees.{TypeSyn, NamedSyn, FormalSyn, SigSyn, MethodSyn, ClassSyn, RoutineSyn, InterfaceClassSyn, InterfaceItemSyn, InterfaceSyn, BodySyn, ModuleItemSyn, module_class, module_routine, ModuleSyn}
use Rattle.th_type.specs.declared.place.Failure.{Failure}
use Rattle.th_type.specs.Failures.{place, none_of, unless}
use Rattle.th_type.specs.Lists.{IsIn}
use Rattle.th_type.specs.Types.{TypeExpr}
use Rattle.th_type.proofs.Members.{in_map}
use Rattle.th_hier.specs.Hierarchies.{TypeHierarchy, items_of}
use Rattle.th_hier.specs.Naming.{Items, Visible}
use Rattle.th_hier.specs.Resolve.{types_fails}
use Rattle.th_hier.specs.Heads.{formal_types, gives_fails, signals_fail, parts_fail, head_fails, clauses_fail}
use Rattle.th_hier.specs.Spots.{repeats, formal_spots, sig_spots, spots, item_spots}
use Rattle.th_hier.specs.Texts.{within, sig_fails, sigs_fail, class_head_fails, class_body_fails, item_fails, items_fail}
use Rattle.th_meaning.specs.Program.{ProgramUnit}
use Rattle.th_rules.specs.Context.{Binding, ClassInfo, Context, Head, class_head, routine_head, Item, find_item}
use Rattle.th_rules.specs.AllTyped.{AllTyped}
use Rattle.th_rules.specs.Cores.{name_at}
use Rattle.th_stmt_rules.specs.Units.{unit_core, unit_fails, ends_lawfully}
use Rattle.th_stmt_rules.proofs.NoFailure.{unit_law}
use Rattle.th_module_rules.specs.Own.{all_items, all_fields_fail, head_item, head_items, implemented, item_fields_fail, kinds_fail, module_names_fail, module_visible, own_full}
use Rattle.th_module_rules.specs.Contexts.{Base, bindings, inherited_type, interface_items, introduced, item_bases, module_item_name, own_bases, own_class_info, own_head, own_items, own_sigs, routine_info}
use Rattle.th_module_rules.specs.Initializers.{init_core, init_fails}
use Rattle.th_module_rules.specs.Modules.{Judged, judged, context_in, found_in, seen_in, method_sig, unit_body_fails, inherited_at, inherits_fails, is_inherited_supplied, marked_lawfully, method_fails, methods_fail, class_lists_fail, routine_fails, HeadFails, ModuleFails}
use Rattle.th_module_rules.specs.Units.{routine_unit, method_unit, method_units, init_unit, class_units, item_units, items_units, module_units}
use Rattle.th_modules.specs.Own.{AreOwn, HasOwnHead}
use Rattle.th_bodies.proofs.Resolved.{formals_typed, holds_unless, none_both, none_there}
use Rattle.th_bodies.proofs.Inits.{init_there, parts_there}
use Rattle.th_bodies.proofs.Above.{AllFull, ClassesThere, class_there, inherited_there}
use Rattle.th_bodies.proofs.Owned.{item_found, own_item}

some_is : {A : Type 0} (a b : A) → Some a ≡ Some b → a ≡ b
some_is a b h = cc

map_there : {A B : Type 0} (f : A → B) (o : Option A) → is_some o ≡ true → is_some (option_map f o) ≡ true
map_there f None h = h
map_there f (Some a) h = refl

-- the body of a unit in which nothing fails
body_there : (C : Context) (ls : List Binding) (name : Ident) (b : BodySyn) → AllTyped ls → none_of (unit_body_fails C ls name b) ≡ true → is_some (unit_core C ls b) ≡ true
body_there C ls name b t h = sym (unit_law C ls b t) ∙ (none_both (unit_fails C ls b) (unless (ends_lawfully C.sig b) 28 (place C.text name.at)) h).0

-- methods
methods_there : (J : Judged) (ps : List Ident) (c : ClassInfo) (full : ℕ) (ms : List MethodSyn) → ((m : MethodSyn) → IsIn m ms → AllTyped (bindings (found_in J) (seen_in J ps) 0 m.sig.formals)) → none_of (methods_fail J ps c full ms) ≡ true
    → is_some (method_units J ps c full ms) ≡ true
methods_there J ps c full [] t h = refl
methods_there J ps c full (m ∷ ms) t h =
    let C : Context = context_in J ps c.clauses (method_sig J ps m.sig) (Some full) in
    let ls : List Binding = bindings (found_in J) (seen_in J ps) 0 m.sig.formals in
    let parts = none_both (method_fails J ps c full m) (methods_fail J ps c full ms) h in
    let own = none_both (unless (marked_lawfully J.hierarchy.types c m) 15 (place J.text m.sig.name.at)) (unit_body_fails C ls m.sig.name m.body) parts.0 in
    parts_there (λ (u : ProgramUnit) (us : List ProgramUnit). u ∷ us) (method_unit J ps c full m) (method_units J ps c full ms)
    (map_there _ (unit_core C ls m.body) (body_there C ls m.sig.name m.body (t m (inl refl)) own.1))
    (methods_there J ps c full ms (λ n k. t n (inr k)) parts.1)

-- the where-clauses of an inherited class are satisfied
supplied_there : (C : Context) (items : Items) (v : Visible) (n : Option NamedSyn) → none_of (inherits_fails C n (inherited_type items v n)) ≡ true → is_inherited_supplied C (inherited_at C (inherited_type items v n)) ≡ true
supplied_there C items v None h = refl
supplied_there C items v (Some n) h = holds_unless (is_inherited_supplied C (inherited_at C (inherited_type items v (Some n)))) 17 (place C.text n.item.first.at) h

-- what is known of the formals and fields of an item of a module
abbrev pub TypedItem : Items → Visible → ModuleItemSyn → Type 0
TypedItem all v (module_class s) =
    AllTyped (bindings all (within v s.head.params) 0 s.init.head.formals) × AllTyped (bindings all (within v s.head.params) 0 s.fields)
    × ((m : MethodSyn) → IsIn m s.methods → AllTyped (bindings all (within v s.head.params) 0 m.sig.formals))
TypedItem all v (module_routine r) = AllTyped (bindings all (within v r.head.params) 0 r.head.formals)

-- a class
class_made : (J : Judged) (full : ℕ) (s : ClassSyn) (c : ClassInfo) → ClassesThere (found_in J) J.items → TypedItem (found_in J) (module_visible J.table J.tree) (module_class s) → c.fields ≡ bindings (found_in J) (seen_in J s.head.params) 0 s.fields
    → c.inherits ≡ inherited_type (found_in J) (seen_in J s.head.params) s.head.inherits → none_of (class_lists_fail J c full s) ≡ true → is_some (class_units J full s (class_head c)) ≡ true
class_made J full s c there typed fields inherits h =
    let ps : List Ident = s.head.params in
    let C : Context = context_in J ps c.clauses c.init None in
    let ls : List Binding = bindings (found_in J) (seen_in J ps) 0 s.init.head.formals in
    let first = none_both (inherits_fails C s.head.inherits c.inherits ++ init_fails C ls c (inherited_at C c.inherits) s.init) (methods_fail J ps c full s.methods) h in
    let second = none_both (inherits_fails C s.head.inherits c.inherits) (init_fails C ls c (inherited_at C c.inherits) s.init) first.0 in
    let supplied = subst (λ (t : Option TypeExpr). none_of (inherits_fails C s.head.inherits t) ≡ true → is_inherited_supplied C (inherited_at C t) ≡ true) (sym inherits) (supplied_there C (found_in J) (seen_in J ps) s.head.inherits) second.0 in
    let above = subst (λ (t : Option TypeExpr). is_some t ≡ true → is_some (inherited_at C t) ≡ true) (sym inherits) (inherited_there C (found_in J) (seen_in J ps) s.head.inherits there) in
    parts_there (λ (u : ProgramUnit) (us : List ProgramUnit). u ∷ us) (init_unit J s c full) (method_units J ps c full s.methods)
    (map_there _ (init_core C ls (name_at J.table full) c (inherited_at C c.inherits) s.init)
    (init_there C ls (name_at J.table full) c (inherited_at C c.inherits) s.init typed.0 (subst (λ (bs : List Binding). AllTyped bs) (sym fields) typed.1) above supplied second.1))
    (methods_there J ps c full s.methods typed.2 first.1)

-- a routine
routine_made : (J : Judged) (full : ℕ) (r : RoutineSyn) → AllTyped (bindings (found_in J) (seen_in J r.head.params) 0 r.head.formals) → none_of (routine_fails J r) ≡ true
    → is_some (routine_unit J full r (routine_head (routine_info (found_in J) (seen_in J r.head.params) r.head))) ≡ true
routine_made J full r typed h =
    let i = routine_info (found_in J) (seen_in J r.head.params) r.head in
    let C : Context = context_in J r.head.params i.clauses i.sig None in
    let ls : List Binding = bindings (found_in J) (seen_in J r.head.params) 0 r.head.formals in
    map_there _ (unit_core C ls r.body) (body_there C ls r.head.name r.body typed h)

-- items, each with its units
items_made : (J : Judged) (xs : List ModuleItemSyn) → ((x : ModuleItemSyn) → IsIn x xs → is_some (item_units J x (find_item J.items None (module_item_name x).name)) ≡ true) → is_some (items_units J xs) ≡ true
items_made J [] h = refl
items_made J (x ∷ xs) h =
    parts_there (λ (us vs : List ProgramUnit). us ++ vs) (item_units J x (find_item J.items None (module_item_name x).name)) (items_units J xs) (h x (inl refl)) (items_made J xs (λ y m. h y (inr m)))

-- formals whose heads do not fail
head_typed : (items : Items) (v : Visible) (text k : ℕ) (fs : List FormalSyn) (g : Option TypeSyn) (rs : List RefTree) → none_of (head_fails items v text fs g rs) ≡ true → AllTyped (bindings items v k fs)
head_typed items v text k fs g rs h =
    let parts = none_both (repeats 3 [] (formal_spots text fs)) (parts_fail items v text (formal_types fs) g rs) h in
    formals_typed items v text k fs (none_both (types_fails items v text (formal_types fs)) (gives_fails items v text g ++ signals_fail items v text rs) parts.1).0

sigs_typed : (items : Items) (v : Visible) (text k : ℕ) (ss : List SigSyn) (s : SigSyn) → none_of (sigs_fail items v text ss) ≡ true → IsIn s ss → AllTyped (bindings items v k s.formals)
sigs_typed items v text k [] s h m = absurd m
sigs_typed items v text k (t ∷ ss) s h (inl e) =
    subst (λ (x : SigSyn). AllTyped (bindings items v k x.formals)) (sym e) (head_typed items v text k t.formals t.gives t.signals (none_both (sig_fails items v text t) (sigs_fail items v text ss) h).0)
sigs_typed items v text k (t ∷ ss) s h (inr m) = sigs_typed items v text k ss s (none_both (sig_fails items v text t) (sigs_fail items v text ss) h).1 m

item_typed : (items : Items) (v : Visible) (text : ℕ) (x : ModuleItemSyn) → none_of (item_fails items v text (head_item x)) ≡ true → none_of (item_fields_fail items v text x) ≡ true → TypedItem items v x
item_typed items v text (module_class s) h k =
    let w : Visible = within v s.head.params in
    let sigs : List SigSyn = map (λ m. m.sig) s.methods in
    let c : InterfaceClassSyn = record { head = s.head; hidden = sigs; init = s.init.head } in
    let first = none_both (repeats 3 [] (spots text s.head.params)) (class_head_fails items w text c ++ class_body_fails items w text c) h in
    let second = none_both (class_head_fails items w text c) (class_body_fails items w text c) first.1 in
    let third = none_both (repeats 3 [] (sig_spots text sigs)) (sigs_fail items w text sigs ++ head_fails items w text s.init.head.formals None s.init.head.signals) second.1 in
    let fourth = none_both (sigs_fail items w text sigs) (head_fails items w text s.init.head.formals None s.init.head.signals) third.1 in
    let fields = none_both (repeats 3 [] (formal_spots text s.fields)) (types_fails items w text (formal_types s.fields)) k in (
      head_typed items w text 0 s.init.head.formals None s.init.head.signals fourth.1,
      formals_typed items w text 0 s.fields fields.1,
      λ m i. sigs_typed items w text 0 sigs m.sig fourth.0 (in_map (λ (n : MethodSyn). n.sig) m s.methods i),
    )
item_typed items v text (module_routine r) h k =
    let w : Visible = within v r.head.params in
    let first = none_both (repeats 3 [] (spots text r.head.params)) (head_fails items w text r.head.formals r.head.gives r.head.signals ++ clauses_fail items w text r.head.clauses) h in
    head_typed items w text 0 r.head.formals r.head.gives r.head.signals (none_both (head_fails items w text r.head.formals r.head.gives r.head.signals) (clauses_fail items w text r.head.clauses) first.1).0

-- nothing fails in an item where nothing fails in any
item_none : (items : Items) (v : Visible) (text : ℕ) (xs : List ModuleItemSyn) (x : ModuleItemSyn) → none_of (items_fail items v text (map head_item xs)) ≡ true → IsIn x xs → none_of (item_fails items v text (head_item x)) ≡ true
item_none items v text [] x h m = absurd m
item_none items v text (y ∷ xs) x h (inl e) =
    subst (λ (z : ModuleItemSyn). none_of (item_fails items v text (head_item z)) ≡ true) (sym e) (none_both (item_fails items v text (head_item y)) (items_fail items v text (map head_item xs)) h).0
item_none items v text (y ∷ xs) x h (inr m) = item_none items v text xs x (none_both (item_fails items v text (head_item y)) (items_fail items v text (map head_item xs)) h).1 m

fields_none : (items : Items) (v : Visible) (text : ℕ) (xs : List ModuleItemSyn) (x : ModuleItemSyn) → none_of (all_fields_fail items v text xs) ≡ true → IsIn x xs → none_of (item_fields_fail items v text x) ≡ true
fields_none items v text [] x h m = absurd m
fields_none items v text (y ∷ xs) x h (inl e) =
    subst (λ (z : ModuleItemSyn). none_of (item_fields_fail items v text z) ≡ true) (sym e) (none_both (item_fields_fail items v text y) (all_fields_fail items v text xs) h).0
fields_none items v text (y ∷ xs) x h (inr m) = fields_none items v text xs x (none_both (item_fields_fail items v text y) (all_fields_fail items v text xs) h).1 m

-- a module outside whose bodies and initializers no rule on names fails
module _ (text : ℕ) (table : List (List ℕ)) (fs : List InterfaceSyn) (m : ModuleSyn) (h : TypeHierarchy) (items : h.items ≡ items_of table fs) (named : none_of (module_names_fail table h.items text m) ≡ true) where
  abbrev J : Judged
  J = judged text table h fs m

  abbrev all : Items
  all = all_items table h.items m

  abbrev v : Visible
  v = module_visible table m

  abbrev full : ℕ → ℕ
  full = own_full table h.items m

  abbrev bases : List Base
  bases = own_bases full all v [] m.items ++ item_bases (interface_items h.items [] fs)

  abbrev heads : List InterfaceItemSyn
  heads = head_items m

  abbrev own : ModuleItemSyn → Item
  own x = own_item full h.types bases all v (interface_items h.items [] fs) x

  names_none : (none_of (repeats 2 [] (item_spots text heads)) ≡ true) × (none_of (items_fail all v text heads) ≡ true) × (none_of (all_fields_fail all v text m.items) ≡ true)
  names_none =
      let rs : List Failure = repeats 2 [] (item_spots text heads) in
      let ks : List Failure = kinds_fail h.items (implemented m) text heads in
      let is : List Failure = items_fail all v text heads in
      let fields : List Failure = all_fields_fail all v text m.items in
      let first = none_both ((rs ++ ks) ++ is) fields named in
      let second = none_both (rs ++ ks) is first.0 in
      let third = none_both rs ks second.0 in
      (third.0, second.1, first.1)

  found : (x : ModuleItemSyn) → IsIn x m.items → find_item J.items None (module_item_name x).name ≡ Some (own x)
  found x k = item_found full h.types bases all v (interface_items h.items [] fs) text m.items x names_none.0 k

  typed : (x : ModuleItemSyn) → IsIn x m.items → TypedItem all v x
  typed x k = item_typed all v text x (item_none all v text m.items x names_none.1 k) (fields_none all v text m.items x names_none.2 k)

  own_by : (x : ModuleItemSyn) (k : Head) → k ≡ own_head h.types bases all v x → HasOwnHead J x k
  own_by (module_class c) k e = tt
  own_by (module_routine r) k e = e

  -- its items are found with their own heads
  pub own_heads : AreOwn J
  own_heads = λ x k i e. own_by x i.head (ap (λ (j : Item). j.head) (sym (some_is (own x) i (sym (found x k) ∙ e))))

  classes : AllFull table fs → ClassesThere all J.items
  classes there =
      subst (λ (is : Items). ClassesThere (all_items table is m) (own_items (own_full table is m) h.types bases all v [] m.items ++ interface_items is [] fs)) (sym items)
      (λ k e j a s. class_there table fs m h.types bases all v k e j there a s)

  item_made : AllFull table fs → (x : ModuleItemSyn) → TypedItem all v x → ((f : Failure) → HeadFails J (full (module_item_name x).name) x (own_head h.types bases all v x) f → ⊥) → is_some (item_units J x (Some (own x))) ≡ true
  item_made there (module_class s) t n =
      let c : ClassInfo = own_class_info all v s (introduced h.types bases (own_class_info all v s []) (own_sigs all v s)) in
      class_made J (full s.head.name.name) s c (classes there) t refl refl (none_there (class_lists_fail J c (full s.head.name.name) s) (λ f k. n f (inl k)))
  item_made there (module_routine r) t n =
      map_there (λ (u : ProgramUnit). u ∷ []) (routine_unit J (full r.head.name.name) r (own_head h.types bases all v (module_routine r))) (routine_made J (full r.head.name.name) r t (none_there (routine_fails J r) (λ f k. n f k)))

  -- it has units, where nothing fails in it
  pub units_there : AllFull table fs → ((f : Failure) → ModuleFails J f → ⊥) → is_some (module_units J) ≡ true
  units_there there n =
      items_made J m.items
      (λ x k. subst (λ (o : Option Item). is_some (item_units J x o) ≡ true) (sym (found x k)) (item_made there x (typed x k) (λ f q. n f (x, own x, k, found x k, inl q))))
