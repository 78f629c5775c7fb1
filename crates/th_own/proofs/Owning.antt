-- The own items of a module as they are added are its own items, each the first of its name.
use Rattle.std.proofs.Common.{◌≡◌, ℕ, Bool, true, false, ◌&&◌, ◌||◌, nat_eq, List, [], ◌∷◌, ◌++◌, map, Option, Some, is_some, refl, sym, ap, ◌∙◌, append_assoc, append-nil, eq-eqb, if◌then◌else◌}
use Rattle.std.proofs.lemmas.List.{map-append}
use Rattle.th_tree.specs.Trees.{InterfaceItemSyn, ModuleSyn}
use Rattle.th_hier.specs.declared.item.ItemName.{ItemName}
use Rattle.th_hier.specs.declared.item.Entry.{Entry}
use Rattle.th_hier.specs.Naming.{Items, has, with_number, item_at}
use Rattle.th_hier.specs.Spots.{item_name}
use Rattle.th_module_rules.specs.Own.{head_items, implemented, own_items, own_scope}
use Rattle.th_heads.specs.Adding.{with_own}
use Rattle.th_own.specs.Owned.{own_entry, own_key, owned}

-- all of the items stand under this number
abbrev pub AllUnder : ℕ → Items → Type 0
AllUnder scope [] = Unit {0}
AllUnder scope (e ∷ es) = (e.0.interface ≡ scope) × AllUnder scope es

abbrev pub names_of : Items → List ℕ
names_of es = map (λ (e : ItemName × Entry). e.0.name) es

under_one_more : (scope : ℕ) (es : Items) (k : ItemName) (e : Entry) → k.interface ≡ scope → AllUnder scope es → AllUnder scope (es ++ (k, e) ∷ [])
under_one_more scope [] k e h u = (h, tt)
under_one_more scope (x ∷ es) k e h u = (u.0, under_one_more scope es k e h u.1)

same_self : (n : ℕ) → nat_eq n n ≡ true
same_self n = eq-eqb n n refl

test_if : (b : Bool) (x : Entry) (o : Option Entry) → is_some (if b then Some x else o) ≡ b || is_some o
test_if true x o = refl
test_if false x o = refl

-- an item is there exactly where its name is one of the names
there_is : (scope n : ℕ) (es : Items) → AllUnder scope es → is_some (item_at es (record { interface = scope; name = n })) ≡ has (names_of es) n
there_is scope n [] u = refl
there_is scope n (x ∷ es) u =
    test_if (nat_eq scope x.0.interface && nat_eq n x.0.name) x.1 (item_at es (record { interface = scope; name = n }))
    ∙ ap (λ b. b || is_some (item_at es (record { interface = scope; name = n }))) (ap (λ i. nat_eq scope i && nat_eq n x.0.name) u.0 ∙ ap (λ b. b && nat_eq n x.0.name) (same_self scope))
    ∙ ap (λ b. nat_eq n x.0.name || b) (there_is scope n es u.1)

-- the own items after those so far
abbrev pub owned_after : List (List ℕ) → Items → ModuleSyn → Items → List InterfaceItemSyn → Items
owned_after table items m own is = own ++ own_items table items m (names_of own) is

step_if : (table : List (List ℕ)) (items : Items) (m : ModuleSyn) (own : Items) (i : InterfaceItemSyn) (is : List InterfaceItemSyn) (b : Bool)
    → is_some (item_at own (own_key (own_scope table m) i)) ≡ b → has (names_of own) (item_name i).name ≡ b
    → owned_after table items m (with_own own (own_key (own_scope table m) i) (own_entry table items m.name.name (implemented m) i)) is ≡ owned_after table items m own (i ∷ is)
step_if table items m own i is true there name =
    ap (λ (b : Bool). owned_after table items m (if b then own else own ++ (own_key (own_scope table m) i, own_entry table items m.name.name (implemented m) i) ∷ []) is) there
    ∙ sym (ap (λ (b : Bool). own ++ (if b then own_items table items m (names_of own) is else (own_key (own_scope table m) i, own_entry table items m.name.name (implemented m) i) ∷ own_items table items m (with_number (names_of own) (item_name i).name) is)) name)
step_if table items m own i is false there name =
    let x : ItemName × Entry = (own_key (own_scope table m) i, own_entry table items m.name.name (implemented m) i) in
    ap (λ (b : Bool). owned_after table items m (if b then own else own ++ x ∷ []) is) there
    ∙ append_assoc own (x ∷ []) (own_items table items m (names_of (own ++ x ∷ [])) is)
    ∙ ap (λ (ns : List ℕ). own ++ x ∷ own_items table items m ns is) (map-append (λ (e : ItemName × Entry). e.0.name) own (x ∷ []) ∙ sym (ap (λ (b : Bool). if b then names_of own else names_of own ++ (item_name i).name ∷ []) name))
    ∙ sym (ap (λ (b : Bool). own ++ (if b then own_items table items m (names_of own) is else x ∷ own_items table items m (with_number (names_of own) (item_name i).name) is)) name)

under_if : (scope : ℕ) (own : Items) (k : ItemName) (e : Entry) (b : Bool) → k.interface ≡ scope → AllUnder scope own → AllUnder scope (if b then own else own ++ (k, e) ∷ [])
under_if scope own k e true h u = u
under_if scope own k e false h u = under_one_more scope own k e h u

all_owned : (table : List (List ℕ)) (items : Items) (m : ModuleSyn) (own : Items) (is : List InterfaceItemSyn) → AllUnder (own_scope table m) own
    → owned table items (own_scope table m) m.name.name (implemented m) own is ≡ owned_after table items m own is
all_owned table items m own [] u = sym (append-nil own)
all_owned table items m own (i ∷ is) u =
    all_owned table items m (with_own own (own_key (own_scope table m) i) (own_entry table items m.name.name (implemented m) i)) is
    (under_if (own_scope table m) own (own_key (own_scope table m) i) (own_entry table items m.name.name (implemented m) i) (is_some (item_at own (own_key (own_scope table m) i))) refl u)
    ∙ step_if table items m own i is (is_some (item_at own (own_key (own_scope table m) i))) refl (sym (there_is (own_scope table m) (item_name i).name own u))

pub owned_are : (table : List (List ℕ)) (items : Items) (m : ModuleSyn)
    → owned table items (own_scope table m) m.name.name (implemented m) [] (head_items m) ≡ own_items table items m [] (head_items m)
owned_are table items m = all_owned table items m [] (head_items m) tt
