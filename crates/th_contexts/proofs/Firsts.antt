-- The items of a module as they are found by name are its own items, each the first of its name.
use Rattle.std.proofs.Common.{◌≡◌, ℕ, ◌+◌, ◌<◌, Bool, true, false, ◌&&◌, ◌||◌, nat_eq, List, [], ◌∷◌, ◌++◌, map, drop, length, get_or, Option, Some, None, option_map, refl, sym, ap, ◌∙◌, inl, inr, append_assoc, arith, eq-eqb, true≢false, if◌then◌else◌}
use Rattle.std.proofs.lemmas.Bool.Decides.{nat_tests}
use Rattle.th_tree.specs.Trees.{InterfaceItemSyn, ModuleItemSyn, module_class, module_routine, ModuleSyn}
use Rattle.th_type.specs.Declarations.{DeclaredType}
use Rattle.th_type.specs.Lists.{IsIn}
use Rattle.th_hier.specs.declared.item.ItemName.{ItemName}
use Rattle.th_hier.specs.declared.item.Entry.{Entry}
use Rattle.th_hier.specs.Naming.{Items, Visible, has, with_number, item_at}
use Rattle.th_hier.specs.Numbering.{item_sort}
use Rattle.th_hier.specs.Spots.{item_name}
use Rattle.th_hier.proofs.Failing.{next_item}
use Rattle.th_rules.specs.Context.{Item}
use Rattle.th_module_rules.specs.Own.{all_items, head_item, head_items, module_visible, own_full, own_items as own_named, own_scope}
use Rattle.th_module_rules.specs.Contexts.{Base, module_item_name, own_bases, own_class_info, own_head, own_items, item_with}
use Rattle.th_contexts.proofs.Different.{has_push}
use Rattle.th_contexts.specs.First.{base_seen, base_with, full_seen, item_seen, of_first}

same_numbers : (n m : ℕ) → nat_eq n m ≡ true → n ≡ m
same_numbers n m h = grind (arith, nat_tests)

abbrev names_of : List InterfaceItemSyn → List ℕ
names_of is = map (λ i. (item_name i).name) is

abbrev full_in : Option Entry → Option ℕ
full_in e = option_map (λ x. x.full) e

module _ (table : List (List ℕ)) (items : Items) (m : ModuleSyn) where
  abbrev key : ℕ → ItemName
  key n = record { interface = own_scope table m; name = n }

  abbrev entry : InterfaceItemSyn → Entry
  entry i = record { full = own_full table items m (item_name i).name; sort = item_sort i }

  -- the number of the full name of the item with that name
  abbrev at : List InterfaceItemSyn → List ℕ → ℕ → Option ℕ
  at is seen n = full_in (item_at (own_named table items m seen is ++ items) (key n))

  -- that of the first of items, or of the others
  abbrev at_if : InterfaceItemSyn → List InterfaceItemSyn → List ℕ → ℕ → Bool → Option ℕ
  at_if i is seen n b = full_in (item_at ((if b then own_named table items m seen is else (key (item_name i).name, entry i) ∷ own_named table items m (with_number seen (item_name i).name) is) ++ items) (key n))

  abbrev first_if : InterfaceItemSyn → List InterfaceItemSyn → List ℕ → ℕ → Bool → Bool → Option ℕ
  first_if i is seen n s t = full_in (if s && t then Some (entry i) else item_at (own_named table items m (with_number seen (item_name i).name) is ++ items) (key n))

  new_seen : (seen : List ℕ) (k n : ℕ) → has seen n ≡ false → nat_eq n k ≡ false → has seen k ≡ false → has (with_number seen k) n ≡ false
  new_seen seen k n a e f = ap (λ b. has (if b then seen else seen ++ k ∷ []) n) f ∙ has_push seen k n ∙ ap (λ b. b || nat_eq n k) a ∙ e

  found_if : (i : InterfaceItemSyn) (is : List InterfaceItemSyn) (seen : List ℕ) (n : ℕ) (c b : Bool) → nat_eq n (item_name i).name ≡ c → has seen (item_name i).name ≡ b → has seen n ≡ false
      → has (names_of (i ∷ is)) n ≡ true → ((ns : List ℕ) → has ns n ≡ false → has (names_of is) n ≡ true → at is ns n ≡ Some (own_full table items m n))
      → at (i ∷ is) seen n ≡ Some (own_full table items m n)
  found_if i is seen n true true e f a h rest = absurd (true≢false (sym f ∙ sym (ap (has seen) (same_numbers n (item_name i).name e)) ∙ a))
  found_if i is seen n false true e f a h rest = ap (at_if i is seen n) f ∙ rest seen a (sym (ap (λ b. b || has (names_of is) n) e) ∙ h)
  found_if i is seen n true false e f a h rest =
      ap (at_if i is seen n) f ∙ ap (λ b. first_if i is seen n b (nat_eq n (item_name i).name)) (eq-eqb (own_scope table m) (own_scope table m) refl) ∙ ap (first_if i is seen n true) e
      ∙ ap (λ j. Some (own_full table items m j)) (sym (same_numbers n (item_name i).name e))
  found_if i is seen n false false e f a h rest =
      ap (at_if i is seen n) f ∙ ap (λ b. first_if i is seen n b (nat_eq n (item_name i).name)) (eq-eqb (own_scope table m) (own_scope table m) refl) ∙ ap (first_if i is seen n true) e
      ∙ rest (with_number seen (item_name i).name) (new_seen seen (item_name i).name n a e f) (sym (ap (λ b. b || has (names_of is) n) e) ∙ h)

  -- a name among items has the number of the item's full name
  found_named : (is : List InterfaceItemSyn) (seen : List ℕ) (n : ℕ) → has seen n ≡ false → has (names_of is) n ≡ true → at is seen n ≡ Some (own_full table items m n)
  found_named [] seen n a h = absurd (true≢false (sym h))
  found_named (i ∷ is) seen n a h = found_if i is seen n (nat_eq n (item_name i).name) (has seen (item_name i).name) refl refl a h (λ ns b j. found_named is ns n b j)

  head_named : (i : ModuleItemSyn) → (item_name (head_item i)).name ≡ (module_item_name i).name
  head_named (module_class c) = refl
  head_named (module_routine r) = refl

  or_right : (a b : Bool) → b ≡ true → (a || b) ≡ true
  or_right true b h = refl
  or_right false b h = h

  has_named : (i : ModuleItemSyn) (is : List ModuleItemSyn) → IsIn i is → has (names_of (map head_item is)) (module_item_name i).name ≡ true
  has_named i [] h = absurd h
  has_named i (j ∷ is) (inl e) =
      ap (λ b. b || has (names_of (map head_item is)) (module_item_name i).name) (eq-eqb (module_item_name i).name (item_name (head_item j)).name (sym (head_named i) ∙ ap (λ x. (item_name (head_item x)).name) e))
  has_named i (j ∷ is) (inr h) = or_right (nat_eq (module_item_name i).name (item_name (head_item j)).name) (has (names_of (map head_item is)) (module_item_name i).name) (has_named i is h)

  -- each item of the module is found by its name, with the number of its full name
  pub all_found : (i : ModuleItemSyn) → IsIn i m.items → full_seen (all_items table items m) (module_visible table m) (module_item_name i).name ≡ Some (own_full table items m (module_item_name i).name)
  all_found i h = found_named (head_items m) [] (module_item_name i).name refl (has_named i m.items h)

-- each item is found by its name
abbrev pub AllFound : (ℕ → ℕ) → Items → Visible → List ModuleItemSyn → Type 0
AllFound full all v is = (i : ModuleItemSyn) → IsIn i is → full_seen all v (module_item_name i).name ≡ Some (full (module_item_name i).name)

either : {X : Type 0} (b : Bool) (x y z : X) → (b ≡ true → x ≡ z) → (b ≡ false → y ≡ z) → (if b then x else y) ≡ z
either true x y z f g = f refl
either false x y z f g = g refl

-- what is asked of the classes is what is asked of the own ones
pub bases_are : (full : ℕ → ℕ) (all : Items) (v : Visible) (seen : List ℕ) (is : List ModuleItemSyn) → AllFound full all v is → of_first (base_seen all v) seen is ≡ own_bases full all v seen is
bases_are full all v seen [] h = refl
bases_are full all v seen (module_class c ∷ is) h =
    let n : ℕ = c.head.name.name in
    let ms : List ℕ = map (λ m. m.sig.name.name) c.methods in
    ap (λ (r : List Base). if has seen n then r else base_with (full_seen all v n) (own_class_info all v c []) ms ++ of_first (base_seen all v) (with_number seen n) is) (bases_are full all v seen is (λ i j. h i (inr j)))
    ∙ ap (λ (r : List Base). if has seen n then own_bases full all v seen is else base_with (full_seen all v n) (own_class_info all v c []) ms ++ r) (bases_are full all v (with_number seen n) is (λ i j. h i (inr j)))
    ∙ ap (λ (o : Option ℕ). if has seen n then own_bases full all v seen is else base_with o (own_class_info all v c []) ms ++ own_bases full all v (with_number seen n) is) (h (module_class c) (inl refl))
bases_are full all v seen (module_routine r ∷ is) h =
    let n : ℕ = r.head.name.name in
    either (has seen n) (of_first (base_seen all v) seen is) (of_first (base_seen all v) (with_number seen n) is) (own_bases full all v (with_number seen n) is)
    (λ e. bases_are full all v seen is (λ i j. h i (inr j)) ∙ ap (λ (b : Bool). own_bases full all v (if b then seen else seen ++ n ∷ []) is) (sym e))
    (λ e. bases_are full all v (with_number seen n) is (λ i j. h i (inr j)))

-- the items are the own ones
pub items_are : (full : ℕ → ℕ) (D : List DeclaredType) (bs : List Base) (all : Items) (v : Visible) (seen : List ℕ) (is : List ModuleItemSyn) → AllFound full all v is
    → of_first (item_seen D bs all v) seen is ≡ own_items full D bs all v seen is
items_are full D bs all v seen [] h = refl
items_are full D bs all v seen (i ∷ is) h =
    let n : ℕ = (module_item_name i).name in
    ap (λ (r : List Item). if has seen n then r else item_seen D bs all v i ++ of_first (item_seen D bs all v) (with_number seen n) is) (items_are full D bs all v seen is (λ j k. h j (inr k)))
    ∙ ap (λ (r : List Item). if has seen n then own_items full D bs all v seen is else item_seen D bs all v i ++ r) (items_are full D bs all v (with_number seen n) is (λ j k. h j (inr k)))
    ∙ ap (λ (o : Option ℕ). if has seen n then own_items full D bs all v seen is else item_with None n o (own_head D bs all v i) ++ own_items full D bs all v (with_number seen n) is) (h i (inl refl))

module _ {A B : Type 0} (view : A → ModuleItemSyn) (g : ModuleItemSyn → List B) (xs : List A) (i : ℕ) (x : A) (below : i < length xs) (is : x ≡ get_or xs i x) (seen later : List ℕ) (whole : List B) where
  abbrev rest : List ℕ → List B
  rest ns = of_first g ns (map view (drop (i + 1) xs))

  opened : of_first g seen (map view (drop i xs)) ≡ (if has seen (module_item_name (view x)).name then rest seen else g (view x) ++ rest (with_number seen (module_item_name (view x)).name))
  opened = ap (λ (ys : List A). of_first g seen (map view ys)) (next_item xs i x below is)

  -- one more item, of a name that was not seen before
  pub first_new : (made new : List B) → has seen (module_item_name (view x)).name ≡ false → later ≡ with_number seen (module_item_name (view x)).name → new ≡ made ++ g (view x)
      → made ++ of_first g seen (map view (drop i xs)) ≡ whole → new ++ rest later ≡ whole
  first_new made new e l n w =
      ap (λ (ys : List B). ys ++ rest later) n ∙ append_assoc made (g (view x)) (rest later)
      ∙ ap (λ (ns : List ℕ). made ++ (g (view x) ++ rest ns)) l
      ∙ sym (ap (λ (ys : List B). made ++ ys) (opened ∙ ap (λ (b : Bool). if b then rest seen else g (view x) ++ rest (with_number seen (module_item_name (view x)).name)) e)) ∙ w

  -- one more item, of a name that was seen before
  pub first_old : (made : List B) → has seen (module_item_name (view x)).name ≡ true → later ≡ with_number seen (module_item_name (view x)).name
      → made ++ of_first g seen (map view (drop i xs)) ≡ whole → made ++ rest later ≡ whole
  first_old made e l w =
      ap (λ (ns : List ℕ). made ++ rest ns) (l ∙ ap (λ (b : Bool). if b then seen else seen ++ (module_item_name (view x)).name ∷ []) e)
      ∙ sym (ap (λ (ys : List B). made ++ ys) (opened ∙ ap (λ (b : Bool). if b then rest seen else g (view x) ++ rest (with_number seen (module_item_name (view x)).name)) e)) ∙ w
