-- Look-ups through places of first items.
use Rattle.std.proofs.Common.{◌≡◌, ◌∙◌, ℕ, zero, suc, Bool, true, false, ◌&&◌, nat_eq, List, [], ◌∷◌, Option, Some, None, slice_get, get_or, map, length, ◌<◌, ◌≤◌, drop, arith, Bor, MatchOption, option_map, if◌then◌else◌, refl, ap, sym, true≢false}
use Rattle.std.specs.Map.{lookup}
use Rattle.std.specs.List.{HoldsAt}
use Rattle.std.proofs.lemmas.Option.{slice_get-map, slice_get_past, slice_get_read}
use Rattle.std.specs.Cmp.{IsEquivalence}
use Rattle.std.proofs.lemmas.Cmp.{nat_eq_equiv}
use Rattle.indexmap.specs.IndexMap.{insert_entry}
use Rattle.th_rules.specs.Context.{Item, Head, exception_head, type_head, class_head, routine_head, ClassInfo, find_item, same_origin}
use Rattle.th_rules.specs.Classes.{class_or, class_at}
use Rattle.th_scope.specs.declared.items.Reference.{Reference}
use Rattle.th_scope.specs.declared.item.ClassItem.{ClassItem}
use Rattle.th_scope.specs.declared.item.Head.{Head as ItemHead}
use Rattle.th_scope.specs.declared.item.Head.TheVariants as heads
use Rattle.th_scope.specs.ItemView.{item_head_of}
use Rattle.th_scope.specs.Places.{same_reference, is_named, head_class, is_class, is_class_named, place_from, item_at, class_in, Named, Classed}

module _ {K V : Type 0} {eq : K → K → Bool} (laws : IsEquivalence eq) (k : K) (v : V) (q : K) where
  met : (e : K) (w : V) (rest : Option V) (b : Bool) → eq q k ≡ b → eq k e ≡ true → (if eq q e then Some v else rest) ≡ (if b then Some v else (if eq q e then Some w else rest))
  met e w rest true h same = ap (λ (x : Bool). if x then Some v else rest) (laws.symm q e ∙ sym (laws.congr k e q same) ∙ laws.symm k q ∙ h)
  met e w rest false h same = let n : eq q e ≡ false = laws.symm q e ∙ sym (laws.congr k e q same) ∙ laws.symm k q ∙ h in
      ap (λ (x : Bool). if x then Some v else rest) n ∙ sym (ap (λ (x : Bool). if x then Some w else rest) n)

  passed : (e : K) (w : V) (rest : Option V) (a b : Bool) → eq q e ≡ a → eq q k ≡ b → eq k e ≡ false → (if a then Some w else (if b then Some v else rest)) ≡ (if b then Some v else (if a then Some w else rest))
  passed e w rest true true h g other = absurd (true≢false (sym (sym (laws.congr q k e g) ∙ h) ∙ other))
  passed e w rest true false h g other = refl
  passed e w rest false true h g other = refl
  passed e w rest false false h g other = refl

  -- what an inserted key leads to, and every other key
  pub lookup_inserted : (es : List (K × V)) → lookup (eq q) (insert_entry eq es k v) ≡ (if eq q k then Some v else lookup (eq q) es)
  lookup_inserted [] = refl
  lookup_inserted (e ∷ es) = by (lookup_inserted es) (eq k e.0) refl
    where
      by : lookup (eq q) (insert_entry eq es k v) ≡ (if eq q k then Some v else lookup (eq q) es) → (b : Bool) → eq k e.0 ≡ b
          → lookup (eq q) (if b then (e.0, v) ∷ es else e ∷ insert_entry eq es k v) ≡ (if eq q k then Some v else (if eq q e.0 then Some e.1 else lookup (eq q) es))
      by rest true h = met e.0 e.1 (lookup (eq q) es) (eq q k) refl h
      by rest false h = ap (λ (r : Option V). if eq q e.0 then Some e.1 else r) rest ∙ passed e.0 e.1 (lookup (eq q) es) (eq q e.0) (eq q k) refl refl h

-- origins are equal or not
same_origin_refl : (a : Option ℕ) → same_origin a a ≡ true
same_origin_refl None = refl
same_origin_refl (Some i) = nat_eq_equiv.refl i

same_origin_symm : (a b : Option ℕ) → same_origin a b ≡ same_origin b a
same_origin_symm None None = refl
same_origin_symm None (Some j) = refl
same_origin_symm (Some i) None = refl
same_origin_symm (Some i) (Some j) = nat_eq_equiv.symm i j

same_origin_congr : (a b c : Option ℕ) → same_origin a b ≡ true → same_origin a c ≡ same_origin b c
same_origin_congr None None c h = refl
same_origin_congr None (Some j) c h = absurd (true≢false (sym h))
same_origin_congr (Some i) None c h = absurd (true≢false (sym h))
same_origin_congr (Some i) (Some j) None h = refl
same_origin_congr (Some i) (Some j) (Some k) h = nat_eq_equiv.congr i j k h

both : (a b : Bool) → (a && b) ≡ true → (a ≡ true) × (b ≡ true)
both true b h = (refl, h)
both false b h = absurd (true≢false (sym h))

same_congr : (x y z : Reference) → same_reference x y ≡ true → same_reference x z ≡ same_reference y z
same_congr x y z h = let p = both (same_origin x.from y.from) (nat_eq x.name y.name) h in
    ap (λ (b : Bool). b && nat_eq x.name z.name) (same_origin_congr x.from y.from z.from p.0) ∙ ap (λ (b : Bool). same_origin y.from z.from && b) (nat_eq_equiv.congr x.name y.name z.name p.1)

same_refl : (x : Reference) → same_reference x x ≡ true
same_refl x = ap (λ (b : Bool). b && nat_eq x.name x.name) (same_origin_refl x.from) ∙ nat_eq_equiv.refl x.name

same_symm : (x y : Reference) → same_reference x y ≡ same_reference y x
same_symm x y = ap (λ (b : Bool). b && nat_eq x.name y.name) (same_origin_symm x.from y.from) ∙ ap (λ (b : Bool). same_origin y.from x.from && b) (nat_eq_equiv.symm x.name y.name)

pub same_equiv : IsEquivalence same_reference
same_equiv = record { refl = same_refl; symm = same_symm; congr = same_congr }

-- the list from place k on, one place further
pub item_there : (all : List Item) (k : ℕ) (i : Item) (is : List Item) → drop k all ≡ i ∷ is → (slice_get all k ≡ Some i) × (drop (suc k) all ≡ is)
item_there [] zero i is h = cc
item_there [] (suc k) i is h = cc
item_there (x ∷ all) zero i is h = (cc, cc)
item_there (x ∷ all) (suc k) i is h = item_there all k i is h

-- the item at the place of the first item of a name is the first item of that name
pub finds : (from : Option ℕ) (n : ℕ) (all : List Item) (k : ℕ) (is : List Item) → drop k all ≡ is
    → item_at all (place_from (is_named (record { from = from; name = n })) k is) ≡ find_item is from n
finds from n all k [] h = refl
finds from n all k (i ∷ is) h = by (finds from n all (suc k) is (item_there all k i is h).1) (same_reference (record { from = from; name = n }) (record { from = i.from; name = i.name })) refl
  where
    r : Reference
    r = record { from = from; name = n }

    own : Reference
    own = record { from = i.from; name = i.name }

    turned : same_origin i.from from && nat_eq i.name n ≡ same_reference r own
    turned = same_symm own r

    there : (slice_get all k ≡ Some i) × (drop (suc k) all ≡ is)
    there = item_there all k i is h

    by : item_at all (place_from (is_named r) (suc k) is) ≡ find_item is from n → (b : Bool) → same_reference r own ≡ b
        → item_at all (if same_reference r own then Some k else place_from (is_named r) (suc k) is) ≡ (if same_origin i.from from && nat_eq i.name n then Some i else find_item is from n)
    by rest true e = ap (λ (b : Bool). item_at all (if b then Some k else place_from (is_named r) (suc k) is)) e ∙ there.0 ∙ sym (ap (λ (b : Bool). if b then Some i else find_item is from n) (turned ∙ e))
    by rest false e = ap (λ (b : Bool). item_at all (if b then Some k else place_from (is_named r) (suc k) is)) e ∙ rest ∙ sym (ap (λ (b : Bool). if b then Some i else find_item is from n) (turned ∙ e))

-- the class at the place of the first class of a full name is the first class of that full name
pub finds_class : (n : ℕ) (all : List Item) (k : ℕ) (is : List Item) → drop k all ≡ is
    → class_in (item_at all (place_from (is_class_named n) k is)) ≡ class_at is n
finds_class n all k [] h = refl
finds_class n all k (i ∷ is) h = by (finds_class n all (suc k) is (item_there all k i is h).1) i.head refl
  where
    there : (slice_get all k ≡ Some i) × (drop (suc k) all ≡ is)
    there = item_there all k i is h

    Rest : Type 0
    Rest = class_in (item_at all (place_from (is_class_named n) (suc k) is)) ≡ class_at is n

    at : Bool → Option ClassInfo
    at b = class_in (item_at all (if b then Some k else place_from (is_class_named n) (suc k) is))

    other : Rest → (h : Head) → head_class h ≡ None → i.head ≡ h → at (is_class_named n i) ≡ class_at is n
    other rest h none e = ap (λ (o : Option ClassInfo). at (is_class o (nat_eq n i.full))) (ap head_class e ∙ none) ∙ rest

    is_one : Rest → (c : ClassInfo) → i.head ≡ class_head c → (b : Bool) → nat_eq n i.full ≡ b → at b ≡ (if b then Some c else class_at is n)
    is_one rest c e true same = ap class_in there.0 ∙ ap head_class e
    is_one rest c e false same = rest

    by : Rest → (h : Head) → i.head ≡ h → at (is_class_named n i) ≡ class_or i.full n i.head (class_at is n)
    by rest (exception_head t) e = other rest (exception_head t) refl e ∙ sym (ap (λ (x : Head). class_or i.full n x (class_at is n)) e)
    by rest (type_head m) e = other rest (type_head m) refl e ∙ sym (ap (λ (x : Head). class_or i.full n x (class_at is n)) e)
    by rest (routine_head r) e = other rest (routine_head r) refl e ∙ sym (ap (λ (x : Head). class_or i.full n x (class_at is n)) e)
    by rest (class_head c) e = ap (λ (x : Head). at (is_class (head_class x) (nat_eq n i.full))) e ∙ is_one rest c e (nat_eq n i.full) refl
        ∙ ap (λ (b : Bool). if b then Some c else class_at is n) (nat_eq_equiv.symm n i.full) ∙ sym (ap (λ (x : Head). class_or i.full n x (class_at is n)) e)

-- places of the items from place k on
abbrev pub NamedFrom : (k : ℕ) → List Item → List (Reference × ℕ) → Type 0
NamedFrom k is places = (r : Reference) → lookup (same_reference r) places ≡ place_from (is_named r) k (drop k is)

abbrev pub ClassedFrom : (k : ℕ) → List Item → List (ℕ × ℕ) → Type 0
ClassedFrom k is places = (n : ℕ) → lookup (nat_eq n) places ≡ place_from (is_class_named n) k (drop k is)

-- one more item
pub named_more : (all : List Item) (k : ℕ) (i : Item) (places new : List (Reference × ℕ)) → drop k all ≡ i ∷ drop (suc k) all → NamedFrom (suc k) all places
    → new ≡ insert_entry same_reference places (record { from = i.from; name = i.name }) k → NamedFrom k all new
named_more all k i places new d old made r =
    ap (λ (es : List (Reference × ℕ)). lookup (same_reference r) es) made
    ∙ lookup_inserted same_equiv (record { from = i.from; name = i.name }) k r places
    ∙ ap (λ (o : Option ℕ). if is_named r i then Some k else o) (old r)
    ∙ sym (ap (place_from (is_named r) k) d)

-- one more class
pub class_more : (all : List Item) (k : ℕ) (i : Item) (c : ClassInfo) (places new : List (ℕ × ℕ)) → drop k all ≡ i ∷ drop (suc k) all → i.head ≡ class_head c → ClassedFrom (suc k) all places
    → new ≡ insert_entry nat_eq places i.full k → ClassedFrom k all new
class_more all k i c places new d e old made n =
    ap (λ (es : List (ℕ × ℕ)). lookup (nat_eq n) es) made
    ∙ lookup_inserted nat_eq_equiv i.full k n places
    ∙ ap (λ (o : Option ℕ). if nat_eq n i.full then Some k else o) (old n)
    ∙ sym (ap (λ (h : Head). if is_class (head_class h) (nat_eq n i.full) then Some k else place_from (is_class_named n) (suc k) (drop (suc k) all)) e)
    ∙ sym (ap (place_from (is_class_named n) k) d)

-- one more item that is no class
pub class_same : (all : List Item) (k : ℕ) (i : Item) (places : List (ℕ × ℕ)) → drop k all ≡ i ∷ drop (suc k) all → head_class i.head ≡ None → ClassedFrom (suc k) all places → ClassedFrom k all places
class_same all k i places d none old n =
    old n
    ∙ sym (ap (λ (o : Option ClassInfo). if is_class o (nat_eq n i.full) then Some k else place_from (is_class_named n) (suc k) (drop (suc k) all)) none)
    ∙ sym (ap (place_from (is_class_named n) k) d)

-- what a name leads to
pub led : (r : Reference) (all : List Item) (places : List (Reference × ℕ)) (found : Option ℕ) → Named all places → found ≡ lookup (same_reference r) places → item_at all found ≡ find_item all r.from r.name
led r all places found named is = ap (item_at all) (is ∙ named r) ∙ finds r.from r.name all 0 all refl

-- what a full name leads to
pub led_class : (n : ℕ) (all : List Item) (places : List (ℕ × ℕ)) (found : Option ℕ) → Classed all places → found ≡ lookup (nat_eq n) places → class_in (item_at all found) ≡ class_at all n
led_class n all places found classed is = ap (λ (o : Option ℕ). class_in (item_at all o)) (is ∙ classed n) ∙ finds_class n all 0 all refl

-- what `get` gives, read of a list of what it means
pub got : {A B : Type 0} (v : A → B) (xs : List A) (k : ℕ) (o : Option (Bor A)) → MatchOption o (length xs ≤ k) (λ x. (k < length xs) × HoldsAt (λ y. x.now ≡ y) xs k) → option_map (λ x. v x.now) o ≡ slice_get (map v xs) k
got v xs k None h = sym (slice_get-map v xs k ∙ ap (option_map v) (slice_get_past xs k h))
got v xs k (Some x) h = sym (slice_get-map v xs k ∙ ap (option_map v) (slice_get_read xs (length xs) k x.now refl h.0 (h.1 x.now)))

-- the members from a place on
pub drop_at : {A B : Type 0} (v : A → B) (xs : List A) (k : ℕ) (x : A) → k < length xs → x ≡ get_or xs k x → drop k (map v xs) ≡ v x ∷ drop (suc k) (map v xs)
drop_at v [] k x h e = absurd (omega (arith, h))
drop_at v (y ∷ xs) zero x h e = ap (λ (z : _). v z ∷ map v xs) (sym e)
drop_at v (y ∷ xs) (suc k) x h e = drop_at v xs k x (omega (arith, h)) e

pub drop_none : {A B : Type 0} (v : A → B) (xs : List A) → drop (length xs) (map v xs) ≡ []
drop_none v [] = refl
drop_none v (x ∷ xs) = drop_none v xs

-- an item that is no class has none
pub no_class : (h : ItemHead) → ((c : ClassItem) → h ≡ heads.Class c → ⊥) → head_class (item_head_of h) ≡ None
no_class (heads.Exception t) n = refl
no_class (heads.Declared k) n = refl
no_class (heads.Class c) n = absurd (n c refl)
no_class (heads.Routine r) n = refl
