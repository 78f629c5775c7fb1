-- Where the items of a module have different names, each is found by its name with what its own head says.
use Rattle.std.proofs.Common.{◌≡◌, ℕ, Bool, true, false, not, ◌||◌, nat_eq, List, [], ◌∷◌, ◌++◌, map, Option, Some, None, refl, sym, ap, ◌∙◌, subst, inl, inr, arith, true≢false, if◌then◌else◌}
use Rattle.std.proofs.lemmas.Bool.Decides.{nat_tests}
use Rattle.th_tree.specs.Trees.{InterfaceSyn, ModuleItemSyn, module_class, module_routine, ModuleSyn}
use Rattle.th_type.specs.declared.place.Place.{Place}
use Rattle.th_type.specs.declared.place.Failure.{Failure}
use Rattle.th_type.specs.Failures.{failure, unless, IsLeastOf}
use Rattle.th_type.specs.Lists.{IsIn}
use Rattle.th_type.specs.Declarations.{DeclaredType}
use Rattle.th_type.proofs.Members.{in_left, in_right}
use Rattle.th_hier.specs.declared.spot.Spot.{Spot}
use Rattle.th_hier.specs.Hierarchies.{TypeHierarchy}
use Rattle.th_hier.specs.Naming.{Items, Visible, has, with_number}
use Rattle.th_hier.specs.Spots.{item_spots, repeats, spot_at}
use Rattle.th_rules.specs.Context.{Head, Item, find_item}
use Rattle.th_contexts.proofs.Different.{has_push}
use Rattle.th_module_rules.specs.Own.{all_items, all_fields_fail, head_item, head_items, implemented, kinds_fail, module_names_fail, module_visible, own_full}
use Rattle.th_module_rules.specs.Contexts.{Base, interface_items, item, item_bases, module_item_name, own_bases, own_head, own_items}
use Rattle.th_module_rules.specs.Clauses.{module_items_fail}
use Rattle.th_module_rules.specs.Modules.{judged}
use Rattle.th_module_rules.specs.Stages.{FailsThird, Numbered, Program, hierarchy_in, interface_trees, interfaces_fail, modules_fail}
use Rattle.th_hier.specs.Texts.{items_fail}
use Rattle.th_modules.specs.Own.{AreOwn, HasOwnHead}

-- nothing is in a list of failures
abbrev pub NoneIn : List Failure → Type 0
NoneIn fs = (f : Failure) → ¬ IsIn f fs

-- the names of the items of a module
abbrev names_at : ℕ → List ModuleItemSyn → List Spot
names_at text xs = map (λ x. spot_at text (module_item_name x)) xs

spots_are : (text : ℕ) (xs : List ModuleItemSyn) → item_spots text (map head_item xs) ≡ names_at text xs
spots_are text [] = refl
spots_are text (module_class c ∷ xs) = ap (λ ss. spot_at text c.head.name ∷ ss) (spots_are text xs)
spots_are text (module_routine r ∷ xs) = ap (λ ss. spot_at text r.head.name ∷ ss) (spots_are text xs)

rest_none : (fs gs : List Failure) → NoneIn (fs ++ gs) → NoneIn gs
rest_none fs gs h = λ f i. h f (in_right f fs gs i)

new_if : (b : Bool) (p : Place) (fs : List Failure) → NoneIn (unless (not b) 2 p ++ fs) → b ≡ false
new_if true p fs h = absurd (h (failure 2 p) (inl refl))
new_if false p fs h = refl

or_free : (a b : Bool) → (a || b) ≡ false → (a ≡ false) × (b ≡ false)
or_free true b h = absurd (true≢false h)
or_free false b h = (refl, h)

free_push : (ns : List ℕ) (k n : ℕ) → has (ns ++ k ∷ []) n ≡ false → (has ns n ≡ false) × (nat_eq n k ≡ false)
free_push ns k n h = or_free (has ns n) (nat_eq n k) (sym (has_push ns k n) ∙ h)

-- a number that is not among others with one more is neither among the others nor that one
free_of : (ns : List ℕ) (k n : ℕ) → has ns k ≡ false → has (with_number ns k) n ≡ false → (has ns n ≡ false) × (nat_eq n k ≡ false)
free_of ns k n new h = free_push ns k n (ap (λ (b : Bool). has (if b then ns else ns ++ k ∷ []) n) (sym new) ∙ h)

-- the name of an item is not among those before the items
unseen : (text : ℕ) (seen : List ℕ) (xs : List ModuleItemSyn) (x : ModuleItemSyn) → NoneIn (repeats 2 seen (names_at text xs)) → IsIn x xs → has seen (module_item_name x).name ≡ false
unseen text seen [] x h m = absurd m
unseen text seen (y ∷ xs) x h (inl e) =
    let k : ℕ = (module_item_name y).name in
    ap (λ (z : ModuleItemSyn). has seen (module_item_name z).name) e ∙ new_if (has seen k) (spot_at text (module_item_name y)).place (repeats 2 (with_number seen k) (names_at text xs)) h
unseen text seen (y ∷ xs) x h (inr m) =
    let k : ℕ = (module_item_name y).name in
    let rest : List Failure = repeats 2 (with_number seen k) (names_at text xs) in
    (free_of seen k (module_item_name x).name (new_if (has seen k) (spot_at text (module_item_name y)).place rest h)
    (unseen text (with_number seen k) xs x (rest_none (unless (not (has seen k)) 2 (spot_at text (module_item_name y)).place) rest h) m)).0

same_number : (n : ℕ) → nat_eq n n ≡ true
same_number n = grind (arith, nat_tests)

other_number : (n k : ℕ) → nat_eq n k ≡ false → nat_eq k n ≡ false
other_number n k h = grind (arith, nat_tests)

some_is : {A : Type 0} (a b : A) → Some a ≡ Some b → a ≡ b
some_is a b h = cc

module _ (full : ℕ → ℕ) (D : List DeclaredType) (bs : List Base) (all : Items) (v : Visible) (others : List Item) where
  -- the items by name, of which those before are seen
  abbrev items_from : List ℕ → List ModuleItemSyn → List Item
  items_from seen xs = own_items full D bs all v seen xs ++ others

  abbrev item_of : ModuleItemSyn → Item
  item_of y = item None (module_item_name y).name (full (module_item_name y).name) (own_head D bs all v y)

  abbrev found_if : List ℕ → ModuleItemSyn → List ModuleItemSyn → ℕ → Bool → Option Item
  found_if seen y xs n b = find_item ((if b then own_items full D bs all v seen xs else item_of y ∷ own_items full D bs all v (with_number seen (module_item_name y).name) xs) ++ others) None n

  abbrev first_if : List ℕ → ModuleItemSyn → List ModuleItemSyn → ℕ → Bool → Option Item
  first_if seen y xs n b = if b then Some (item_of y) else find_item (items_from (with_number seen (module_item_name y).name) xs) None n

  -- an item that is found by its name has its own head
  found_own : (text : ℕ) (seen : List ℕ) (xs : List ModuleItemSyn) (x : ModuleItemSyn) (i : Item) → NoneIn (repeats 2 seen (names_at text xs)) → IsIn x xs
      → find_item (items_from seen xs) None (module_item_name x).name ≡ Some i → i.head ≡ own_head D bs all v x
  found_own text seen [] x i h m e = absurd m
  found_own text seen (y ∷ xs) x i h (inl s) e =
      let k : ℕ = (module_item_name y).name in
      let n : ℕ = (module_item_name x).name in
      let new = new_if (has seen k) (spot_at text (module_item_name y)).place (repeats 2 (with_number seen k) (names_at text xs)) h in
      let here = ap (λ (z : ModuleItemSyn). nat_eq k (module_item_name z).name) s ∙ same_number k in
      let is = some_is (item_of y) i (sym (ap (first_if seen y xs n) here) ∙ sym (ap (found_if seen y xs n) new) ∙ e) in
      ap (λ (j : Item). j.head) (sym is) ∙ ap (own_head D bs all v) (sym s)
  found_own text seen (y ∷ xs) x i h (inr m) e =
      let k : ℕ = (module_item_name y).name in
      let n : ℕ = (module_item_name x).name in
      let rest : List Failure = repeats 2 (with_number seen k) (names_at text xs) in
      let new = new_if (has seen k) (spot_at text (module_item_name y)).place rest h in
      let none = rest_none (unless (not (has seen k)) 2 (spot_at text (module_item_name y)).place) rest h in
      let there = other_number n k (free_of seen k n new (unseen text (with_number seen k) xs x none m)).1 in
      found_own text (with_number seen k) xs x i none m (sym (ap (first_if seen y xs n) there) ∙ sym (ap (found_if seen y xs n) new) ∙ e)

module _ (table : List (List ℕ)) (h : TypeHierarchy) (fs : List InterfaceSyn) (m : ModuleSyn) where
  abbrev all : Items
  all = all_items table h.items m

  abbrev v : Visible
  v = module_visible table m

  abbrev others : List Item
  others = interface_items h.items [] fs

  abbrev full : ℕ → ℕ
  full = own_full table h.items m

  abbrev bases : List Base
  bases = own_bases full all v [] m.items ++ item_bases others

  own_by : (text : ℕ) (x : ModuleItemSyn) (k : Head) → k ≡ own_head h.types bases all v x → HasOwnHead (judged text table h fs m) x k
  own_by text (module_class c) k e = tt
  own_by text (module_routine r) k e = e

  -- the items of a module have different names
  pub own_where_different : (text at : ℕ) → NoneIn (repeats 2 [] (item_spots at (head_items m))) → AreOwn (judged text table h fs m)
  own_where_different text at n = λ x k i e. own_by text x i.head
      (found_own full h.types bases all v others at [] m.items x i (subst (λ (ss : List Spot). NoneIn (repeats 2 [] ss)) (spots_are at m.items) n) k e)

  -- no rule on names fails in the module outside bodies and initializers
  pub own_where_named : (text at : ℕ) → NoneIn (module_names_fail table h.items at m) → AreOwn (judged text table h fs m)
  own_where_named text at n =
      let rs : List Failure = repeats 2 [] (item_spots at (head_items m)) in
      let ks : List Failure = kinds_fail h.items (implemented m) at (head_items m) in
      let is : List Failure = items_fail all v at (head_items m) in
      own_where_different text at (λ f i. n f (in_left f ((rs ++ ks) ++ is) (all_fields_fail all v at m.items) (in_left f (rs ++ ks) is (in_left f rs ks i))))

in_modules : (table : List (List ℕ)) (items : Items) (ms : List (Numbered ModuleSyn)) (m : Numbered ModuleSyn) (f : Failure)
    → IsIn m ms → IsIn f (module_names_fail table items m.text m.tree) → IsIn f (modules_fail table items ms)
in_modules table items [] m f k i = absurd k
in_modules table items (n ∷ ms) m f (inl e) i =
    let names : List Failure = module_names_fail table items n.text n.tree in
    let further : List Failure = module_items_fail table n.text (head_items n.tree) in
    in_left f (names ++ further) (modules_fail table items ms) (in_left f names further (subst (λ (q : Numbered ModuleSyn). IsIn f (module_names_fail table items q.text q.tree)) e i))
in_modules table items (n ∷ ms) m f (inr k) i =
    in_right f (module_names_fail table items n.text n.tree ++ module_items_fail table n.text (head_items n.tree)) (modules_fail table items ms) (in_modules table items ms m f k i)

-- nothing fails in the third stage of a program: the items of each module are found with their own heads
pub own_in_program : (p : Program) (m : Numbered ModuleSyn) → IsLeastOf (FailsThird p) None → IsIn m p.modules → AreOwn (judged m.text p.table (hierarchy_in p) (interface_trees p) m.tree)
own_in_program p m none k =
    own_where_named p.table (hierarchy_in p) (interface_trees p) m.tree m.text m.text
    (λ f i. none f (inl (in_right f (interfaces_fail p.table p.interfaces) (modules_fail p.table (hierarchy_in p).items p.modules) (in_modules p.table (hierarchy_in p).items p.modules m f k i))))
