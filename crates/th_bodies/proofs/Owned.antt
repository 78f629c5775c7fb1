-- Where the items of a module have different names, each is found by its name with what its own head says.
use Rattle.std.proofs.Common.{◌≡◌, ℕ, Bool, true, false, not, ◌||◌, nat_eq, List, [], ◌∷◌, ◌++◌, map, Option, Some, None, refl, sym, ap, ◌∙◌, inl, inr, arith, true≢false, if◌then◌else◌, eq-eqb}
use Rattle.std.proofs.lemmas.Bool.Decides.{nat_tests}
use Rattle.th_tree.specs.Trees.{ModuleItemSyn, module_class, module_routine}
use Rattle.th_type.specs.declared.place.Place.{Place}
use Rattle.th_type.specs.Failures.{none_of, unless}
use Rattle.th_type.specs.Lists.{IsIn}
use Rattle.th_type.specs.Declarations.{DeclaredType}
use Rattle.th_hier.specs.declared.spot.Spot.{Spot}
use Rattle.th_hier.specs.Naming.{Items, Visible, has, with_number}
use Rattle.th_hier.specs.Spots.{item_spots, repeats, spot_at}
use Rattle.th_rules.specs.Context.{Item, find_item}
use Rattle.th_contexts.proofs.Different.{has_push}
use Rattle.th_module_rules.specs.Own.{head_item}
use Rattle.th_module_rules.specs.Contexts.{Base, item, module_item_name, own_head, own_items}
use Rattle.th_bodies.proofs.Resolved.{holds_unless, none_both}

-- the names of the items of a module
abbrev names_at : ℕ → List ModuleItemSyn → List Spot
names_at text xs = map (λ x. spot_at text (module_item_name x)) xs

spots_are : (text : ℕ) (xs : List ModuleItemSyn) → item_spots text (map head_item xs) ≡ names_at text xs
spots_are text [] = refl
spots_are text (module_class c ∷ xs) = ap (λ (ss : List Spot). spot_at text c.head.name ∷ ss) (spots_are text xs)
spots_are text (module_routine r ∷ xs) = ap (λ (ss : List Spot). spot_at text r.head.name ∷ ss) (spots_are text xs)

not_true : (b : Bool) → not b ≡ true → b ≡ false
not_true true h = sym h
not_true false h = refl

or_free : (a b : Bool) → (a || b) ≡ false → (a ≡ false) × (b ≡ false)
or_free true b h = absurd (true≢false h)
or_free false b h = (refl, h)

-- a number that is not among others with one more is neither among the others nor that one
free_of : (ns : List ℕ) (k n : ℕ) → has ns k ≡ false → has (with_number ns k) n ≡ false → (has ns n ≡ false) × (nat_eq n k ≡ false)
free_of ns k n new h = or_free (has ns n) (nat_eq n k) (sym (has_push ns k n) ∙ ap (λ (b : Bool). has (if b then ns else ns ++ k ∷ []) n) (sym new) ∙ h)

-- the names after the first are new, and so is the first
new_first : (text : ℕ) (seen : List ℕ) (y : ModuleItemSyn) (xs : List ModuleItemSyn) → none_of (repeats 2 seen (names_at text (y ∷ xs))) ≡ true
    → (has seen (module_item_name y).name ≡ false) × (none_of (repeats 2 (with_number seen (module_item_name y).name) (names_at text xs)) ≡ true)
new_first text seen y xs h =
    let k : ℕ = (module_item_name y).name in
    let p : Place = (spot_at text (module_item_name y)).place in
    let parts = none_both (unless (not (has seen k)) 2 p) (repeats 2 (with_number seen k) (names_at text xs)) h in
    (not_true (has seen k) (holds_unless (not (has seen k)) 2 p parts.0), parts.1)

-- the name of an item is not among those before the items
unseen : (text : ℕ) (seen : List ℕ) (xs : List ModuleItemSyn) (x : ModuleItemSyn) → none_of (repeats 2 seen (names_at text xs)) ≡ true → IsIn x xs → has seen (module_item_name x).name ≡ false
unseen text seen [] x h m = absurd m
unseen text seen (y ∷ xs) x h (inl e) = ap (λ (z : ModuleItemSyn). has seen (module_item_name z).name) e ∙ (new_first text seen y xs h).0
unseen text seen (y ∷ xs) x h (inr m) =
    let k : ℕ = (module_item_name y).name in
    let f = new_first text seen y xs h in
    (free_of seen k (module_item_name x).name f.0 (unseen text (with_number seen k) xs x f.1 m)).0

other_number : (n k : ℕ) → nat_eq n k ≡ false → nat_eq k n ≡ false
other_number n k h = grind (arith, nat_tests)

module _ (full : ℕ → ℕ) (D : List DeclaredType) (bs : List Base) (all : Items) (v : Visible) (others : List Item) where
  abbrev pub own_item : ModuleItemSyn → Item
  own_item y = item None (module_item_name y).name (full (module_item_name y).name) (own_head D bs all v y)

  abbrev items_from : List ℕ → List ModuleItemSyn → List Item
  items_from seen xs = own_items full D bs all v seen xs ++ others

  abbrev found_if : List ℕ → ModuleItemSyn → List ModuleItemSyn → ℕ → Bool → Option Item
  found_if seen y xs n b = find_item ((if b then own_items full D bs all v seen xs else own_item y ∷ own_items full D bs all v (with_number seen (module_item_name y).name) xs) ++ others) None n

  abbrev first_if : List ℕ → ModuleItemSyn → List ModuleItemSyn → ℕ → Bool → Option Item
  first_if seen y xs n b = if b then Some (own_item y) else find_item (items_from (with_number seen (module_item_name y).name) xs) None n

  found_own : (text : ℕ) (seen : List ℕ) (xs : List ModuleItemSyn) (x : ModuleItemSyn) → none_of (repeats 2 seen (names_at text xs)) ≡ true → IsIn x xs → find_item (items_from seen xs) None (module_item_name x).name ≡ Some (own_item x)
  found_own text seen [] x h m = absurd m
  found_own text seen (y ∷ xs) x h (inl s) =
      let k : ℕ = (module_item_name y).name in
      let n : ℕ = (module_item_name x).name in
      let f = new_first text seen y xs h in
      ap (found_if seen y xs n) f.0 ∙ ap (first_if seen y xs n) (eq-eqb k n (ap (λ (z : ModuleItemSyn). (module_item_name z).name) (sym s))) ∙ ap (λ (z : ModuleItemSyn). Some (own_item z)) (sym s)
  found_own text seen (y ∷ xs) x h (inr m) =
      let k : ℕ = (module_item_name y).name in
      let n : ℕ = (module_item_name x).name in
      let f = new_first text seen y xs h in
      let other = other_number n k (free_of seen k n f.0 (unseen text (with_number seen k) xs x f.1 m)).1 in
      ap (found_if seen y xs n) f.0 ∙ ap (first_if seen y xs n) other ∙ found_own text (with_number seen k) xs x f.1 m

  -- each item is found by its name
  pub item_found : (text : ℕ) (xs : List ModuleItemSyn) (x : ModuleItemSyn) → none_of (repeats 2 [] (item_spots text (map head_item xs))) ≡ true → IsIn x xs
      → find_item (own_items full D bs all v [] xs ++ others) None (module_item_name x).name ≡ Some (own_item x)
  item_found text xs x h m = found_own text [] xs x (ap (λ (ss : List Spot). none_of (repeats 2 [] ss)) (sym (spots_are text xs)) ∙ h) m
