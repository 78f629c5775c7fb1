-- The places that are noted of the heads of declared classes are those of the first declarations.
use Rattle.std.proofs.Common.{◌≡◌, ℕ, Bool, true, false, ◌&&◌, nat_eq, List, [], ◌∷◌, Option, Some, None, is_some, refl, sym, ap, ◌∙◌, true≢false, if◌then◌else◌}
use Rattle.std.specs.Cmp.{IsEquivalence}
use Rattle.std.proofs.lemmas.Cmp.{nat_eq_equiv}
use Rattle.indexmap.specs.IndexMap.{insert_entry}
use Rattle.th_tree.specs.Trees.{InterfaceItemSyn, exception_item, type_item, class_item, routine_item, InterfaceSyn}
use Rattle.th_type.specs.declared.place.Place.{Place}
use Rattle.th_type.specs.Failures.{place}
use Rattle.th_type.specs.Lists.{first_some, or_else}
use Rattle.th_hier.specs.declared.item.ItemName.{ItemName}
use Rattle.th_hier.specs.Naming.{same_item}
use Rattle.th_module_rules.specs.Stages.{Numbered}
use Rattle.th_scope.proofs.Places.{lookup_inserted}
use Rattle.th_checked.specs.Checked.{declaration_place, item_place, place_in}
use Rattle.th_checked.specs.Noting.{Places, head_place, place_at, with_all, with_head, with_heads, with_place}

both : (a b : Bool) → (a && b) ≡ true → (a ≡ true) × (b ≡ true)
both true b h = (refl, h)
both false b h = absurd (true≢false (sym h))

item_refl : (x : ItemName) → same_item x x ≡ true
item_refl x = ap (λ (b : Bool). b && nat_eq x.name x.name) (nat_eq_equiv.refl x.interface) ∙ nat_eq_equiv.refl x.name

item_symm : (x y : ItemName) → same_item x y ≡ same_item y x
item_symm x y = ap (λ (b : Bool). b && nat_eq x.name y.name) (nat_eq_equiv.symm x.interface y.interface) ∙ ap (λ (b : Bool). nat_eq y.interface x.interface && b) (nat_eq_equiv.symm x.name y.name)

item_congr : (x y z : ItemName) → same_item x y ≡ true → same_item x z ≡ same_item y z
item_congr x y z h = let p = both (nat_eq x.interface y.interface) (nat_eq x.name y.name) h in
    ap (λ (b : Bool). b && nat_eq x.name z.name) (nat_eq_equiv.congr x.interface y.interface z.interface p.0)
    ∙ ap (λ (b : Bool). nat_eq y.interface z.interface && b) (nat_eq_equiv.congr x.name y.name z.name p.1)

-- names are the same or not
item_equiv : IsEquivalence same_item
item_equiv = record { refl = item_refl; symm = item_symm; congr = item_congr }

-- one name leads to one place
same_place : (x y : ItemName) (es : Places) → same_item x y ≡ true → place_at es x ≡ place_at es y
same_place x y [] h = refl
same_place x y (e ∷ es) h =
    ap (λ (b : Bool). if b then Some e.1 else place_at es x) (item_congr x y e.0 h) ∙ ap (λ (o : Option Place). if same_item y e.0 then Some e.1 else o) (same_place x y es h)

none_else : {A : Type 0} (o : Option A) → or_else o None ≡ o
none_else None = refl
none_else (Some a) = refl

some_else : {A : Type 0} (o p : Option A) → is_some o ≡ true → or_else o p ≡ o
some_else None p h = absurd (true≢false (sym h))
some_else (Some a) p h = refl

no_else : {A : Type 0} (o p : Option A) → is_some o ≡ false → or_else o p ≡ p
no_else None p h = refl
no_else (Some a) p h = absurd (true≢false h)

pub else_else : {A : Type 0} (o p q : Option A) → or_else (or_else o p) q ≡ or_else o (or_else p q)
else_else None p q = refl
else_else (Some a) p q = refl

abbrev if_place : Bool → Place → Option Place
if_place b at = if b then Some at else None

-- a name that is there stays where it leads to
found_there : (es : Places) (x y : ItemName) (at : Place) (b : Bool) → same_item x y ≡ b → is_some (place_at es y) ≡ true → place_at es x ≡ or_else (place_at es x) (if_place b at)
found_there es x y at true e h = sym (some_else (place_at es x) (Some at) (ap is_some (same_place x y es e) ∙ h))
found_there es x y at false e h = sym (none_else (place_at es x))

-- a new name leads to its place
found_new : (es : Places) (x y : ItemName) (at : Place) (b : Bool) → same_item x y ≡ b → is_some (place_at es y) ≡ false → (if b then Some at else place_at es x) ≡ or_else (place_at es x) (if_place b at)
found_new es x y at true e h = sym (no_else (place_at es x) (Some at) (ap is_some (same_place x y es e) ∙ h))
found_new es x y at false e h = sym (none_else (place_at es x))

found_by : (es : Places) (x y : ItemName) (at : Place) (b : Bool) → is_some (place_at es y) ≡ b
    → place_at (if b then es else insert_entry same_item es y at) x ≡ or_else (place_at es x) (if_place (same_item x y) at)
found_by es x y at true h = found_there es x y at (same_item x y) refl h
found_by es x y at false h = lookup_inserted item_equiv y at x es ∙ found_new es x y at (same_item x y) refl h

-- where names lead to with one more
found_with : (es : Places) (x y : ItemName) (at : Place) → place_at (with_place es y at) x ≡ or_else (place_at es x) (if_place (same_item x y) at)
found_with es x y at = found_by es x y at (is_some (place_at es y)) refl

abbrev named : ℕ → ℕ → ItemName
named i n = record { interface = i; name = n }

-- what is found in the interface of that name
abbrev within : Bool → Option Place → Option Place
within b o = if b then o else None

both_within : (a b : Bool) (at : Place) → if_place (a && b) at ≡ within a (if_place b at)
both_within true b at = refl
both_within false b at = refl

none_within : (b : Bool) (o : Option Place) → o ≡ or_else o (within b None)
none_within true o = sym (none_else o)
none_within false o = sym (none_else o)

item_found : (es : Places) (text i n : ℕ) (f : ℕ) (x : InterfaceItemSyn) → place_at (with_head text f es x) (named i n) ≡ or_else (place_at es (named i n)) (within (nat_eq i f) (item_place text n x))
item_found es text i n f (exception_item e) = none_within (nat_eq i f) (place_at es (named i n))
item_found es text i n f (type_item t) = none_within (nat_eq i f) (place_at es (named i n))
item_found es text i n f (class_item c) =
    found_with es (named i n) (named f c.head.name.name) (place text c.head.at)
    ∙ ap (or_else (place_at es (named i n))) (both_within (nat_eq i f) (nat_eq n c.head.name.name) (place text c.head.at))
item_found es text i n f (routine_item r) = none_within (nat_eq i f) (place_at es (named i n))

else_within : (b : Bool) (o p : Option Place) → or_else (within b o) (within b p) ≡ within b (or_else o p)
else_within true o p = refl
else_within false o p = refl

items_found : (es : Places) (text i n : ℕ) (f : ℕ) (xs : List InterfaceItemSyn)
    → place_at (with_heads text f es xs) (named i n) ≡ or_else (place_at es (named i n)) (within (nat_eq i f) (first_some (item_place text n) xs))
items_found es text i n f [] = none_within (nat_eq i f) (place_at es (named i n))
items_found es text i n f (x ∷ xs) =
    items_found (with_head text f es x) text i n f xs
    ∙ ap (λ (o : Option Place). or_else o (within (nat_eq i f) (first_some (item_place text n) xs))) (item_found es text i n f x)
    ∙ else_else (place_at es (named i n)) (within (nat_eq i f) (item_place text n x)) (within (nat_eq i f) (first_some (item_place text n) xs))
    ∙ ap (or_else (place_at es (named i n))) (else_within (nat_eq i f) (item_place text n x) (first_some (item_place text n) xs))

all_found : (es : Places) (i n : ℕ) (fs : List (Numbered InterfaceSyn)) → place_at (with_all es fs) (named i n) ≡ or_else (place_at es (named i n)) (first_some (place_in i n) fs)
all_found es i n [] = sym (none_else (place_at es (named i n)))
all_found es i n (f ∷ fs) =
    all_found (with_heads f.text f.tree.name.name es f.tree.items) i n fs
    ∙ ap (λ (o : Option Place). or_else o (first_some (place_in i n) fs)) (items_found es f.text i n f.tree.name.name f.tree.items)
    ∙ else_else (place_at es (named i n)) (place_in i n f) (first_some (place_in i n) fs)

-- the places that are noted
pub places_are : (fs : List (Numbered InterfaceSyn)) (implements : Option ℕ) (n : ℕ) → head_place (with_all [] fs) implements n ≡ declaration_place fs implements n
places_are fs None n = refl
places_are fs (Some i) n = all_found [] i n fs
