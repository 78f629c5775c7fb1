-- The numbers of full names that are found by name are those of all items.
use Rattle.std.proofs.Common.{◌≡◌, ℕ, Bool, true, false, nat_eq, ◌&&◌, ◌||◌, List, [], ◌∷◌, ◌++◌, Option, Some, None, is_some, refl, sym, ap, ◌∙◌, subst, ◌⊎◌, inl, inr, true≢false, eq-eqb, if◌then◌else◌}
use Rattle.std.specs.Prelude.{unwrap_or}
use Rattle.std.proofs.lemmas.Bool.{eqb-true}
use Rattle.std.proofs.lemmas.List.Folds.{list_any-append}
use Rattle.th_tree.specs.Names.{place_of}
use Rattle.th_tree.specs.Trees.{InterfaceItemSyn, InterfaceSyn}
use Rattle.th_type.specs.Lists.{IsIn}
use Rattle.th_type.proofs.Members.{from_append}
use Rattle.th_hier.specs.declared.item.ItemName.{ItemName}
use Rattle.th_hier.specs.declared.item.Entry.{Entry}
use Rattle.th_hier.specs.Naming.{Items, has, with_number, same_item, item_at, item_in}
use Rattle.th_hier.specs.Spots.{item_name}
use Rattle.th_hier.specs.Numbering.{full_numbers, Numbering, numbering, full_name, add_item, add_items, add_interface, add_interfaces, item_sort}
use Rattle.th_hier.specs.Hierarchies.{items_of}
use Rattle.th_outlines.specs.Fulls.{with_entry, with_items, with_interfaces}

or_parts : (a b : Bool) → (a || (b || false)) ≡ true → (a ≡ true) ⊎ (b ≡ true)
or_parts true b h = inl refl
or_parts false true h = inr refl
or_parts false false h = absurd (true≢false (sym h))

or_last : (a : Bool) → a || (true || false) ≡ true
or_last true = refl
or_last false = refl

or_right : (a b : Bool) → b ≡ true → a || b ≡ true
or_right true b h = refl
or_right false b h = h

-- a number that is among those with a further one
with_is : (ns : List ℕ) (m n : ℕ) (b : Bool) → has (if b then ns else ns ++ m ∷ []) n ≡ true → (has ns n ≡ true) ⊎ (n ≡ m)
with_is ns m n true h = inl h
with_is ns m n false h = elim (or_parts (has ns n) (nat_eq n m) (sym (list_any-append (nat_eq n) ns (m ∷ [])) ∙ h)) [ inl a ↦ inl a | inr e ↦ inr (eqb-true n m e) ]

kept_with : (ns : List ℕ) (m n : ℕ) (b : Bool) → has ns n ≡ true → has (if b then ns else ns ++ m ∷ []) n ≡ true
kept_with ns m n true h = h
kept_with ns m n false h = list_any-append (nat_eq n) ns (m ∷ []) ∙ ap (λ (x : Bool). x || (nat_eq n m || false)) h

there_with : (ns : List ℕ) (m : ℕ) (b : Bool) → has ns m ≡ b → has (if b then ns else ns ++ m ∷ []) m ≡ true
there_with ns m true h = h
there_with ns m false h = list_any-append (nat_eq m) ns (m ∷ []) ∙ ap (λ (x : Bool). has ns m || (x || false)) (eq-eqb m m refl) ∙ or_last (has ns m)

same_some : (e x : Entry) → Some e ≡ Some x → e ≡ x
same_some e x s = ap (λ (o : Option Entry). unwrap_or o e) s

none_some : {P : Type 0} (x : Entry) → None ≡ Some x → P
none_some x s = absurd (cc)

-- an item that is found has its number among those of all
has_if : (e : ItemName × Entry) (es : Items) (o : Option Entry) (x : Entry) (b : Bool) → (o ≡ Some x → has (full_numbers es) x.full ≡ true)
    → (if b then Some e.1 else o) ≡ Some x → nat_eq x.full e.1.full || has (full_numbers es) x.full ≡ true
has_if e es o x true h s =
    subst (λ (y : Entry). nat_eq y.full e.1.full || has (full_numbers es) y.full ≡ true) (same_some e.1 x s)
    (ap (λ (c : Bool). c || has (full_numbers es) e.1.full) (eq-eqb e.1.full e.1.full refl))
has_if e es o x false h s = or_right (nat_eq x.full e.1.full) (has (full_numbers es) x.full) (h s)

item_has : (es : Items) (key : ItemName) (x : Entry) → item_at es key ≡ Some x → has (full_numbers es) x.full ≡ true
item_has [] key x s = none_some x s
item_has (e ∷ es) key x s = has_if e es (item_at es key) x (same_item key e.0) (item_has es key x) s

entry_in : (items : Items) (ns : List ℕ) (key : ItemName) (o : Option Entry) (n : ℕ) → item_at items key ≡ o → has (with_entry ns o) n ≡ true → (has ns n ≡ true) ⊎ (has (full_numbers items) n ≡ true)
entry_in items ns key None n e h = inl h
entry_in items ns key (Some x) n e h = elim (with_is ns x.full n (has ns x.full) h) [
  | inl a ↦ inl a
  | inr s ↦ inr (subst (λ (k : ℕ). has (full_numbers items) k ≡ true) (sym s) (item_has items key x e))
]

items_in : (items : Items) (ns : List ℕ) (i : ℕ) (xs : List InterfaceItemSyn) (n : ℕ) → has (with_items items ns i xs) n ≡ true → (has ns n ≡ true) ⊎ (has (full_numbers items) n ≡ true)
items_in items ns i [] n h = inl h
items_in items ns i (x ∷ xs) n h = elim (items_in items (with_entry ns (item_in items (Some i) (item_name x).name)) i xs n h) [
  | inl a ↦ entry_in items ns (record { interface = i; name = (item_name x).name }) (item_in items (Some i) (item_name x).name) n refl a
  | inr b ↦ inr b
]

found_in : (items : Items) (ns : List ℕ) (fs : List InterfaceSyn) (n : ℕ) → has (with_interfaces items ns fs) n ≡ true → (has ns n ≡ true) ⊎ (has (full_numbers items) n ≡ true)
found_in items ns [] n h = inl h
found_in items ns (f ∷ fs) n h = elim (found_in items (with_items items ns f.name.name f.items) fs n h) [
  | inl a ↦ items_in items ns f.name.name f.items n a
  | inr b ↦ inr b
]

-- each item is the first of its name
abbrev pub Firsts : Items → Type 0
Firsts items = (x : ItemName × Entry) → IsIn x items → item_at items x.0 ≡ Some x.1

append_if : (e y : Option Entry) (x : Entry) (b : Bool) → (y ≡ Some x → e ≡ Some x) → (v : Entry) → (if b then Some v else y) ≡ Some x → (if b then Some v else e) ≡ Some x
append_if e y x true h v s = s
append_if e y x false h v s = h s

at_append : (es ys : Items) (key : ItemName) (x : Entry) → item_at es key ≡ Some x → item_at (es ++ ys) key ≡ Some x
at_append [] ys key x s = none_some x s
at_append (e ∷ es) ys key x s = append_if (item_at (es ++ ys) key) (item_at es key) x (same_item key e.0) (at_append es ys key x) e.1 s

past_if : (v : Entry) (o z y : Option Entry) (b : Bool) → (is_some o ≡ false → z ≡ y) → is_some (if b then Some v else o) ≡ false → (if b then Some v else z) ≡ y
past_if v o z y true h s = absurd (true≢false s)
past_if v o z y false h s = h s

at_past : (es ys : Items) (key : ItemName) → is_some (item_at es key) ≡ false → item_at (es ++ ys) key ≡ item_at ys key
at_past [] ys key s = refl
at_past (e ∷ es) ys key s = past_if e.1 (item_at es key) (item_at (es ++ ys) key) (item_at ys key) (same_item key e.0) (at_past es ys key) s

at_one : (key : ItemName) (e : Entry) → item_at ((key, e) ∷ []) key ≡ Some e
at_one key e = ap (λ (b : Bool). if b && nat_eq key.name key.name then Some e else None) (eq-eqb key.interface key.interface refl) ∙ ap (λ (b : Bool). if b then Some e else None) (eq-eqb key.name key.name refl)

or_none : (a b : Bool) → a || b ≡ false → a ≡ false
or_none true b h = absurd (true≢false h)
or_none false b h = refl

push_firsts : (items : Items) (key : ItemName) (e : Entry) (b : Bool) → is_some (item_at items key) || has (full_numbers items) e.full ≡ b → Firsts items → Firsts (if b then items else items ++ (key, e) ∷ [])
push_firsts items key e true is h = h
push_firsts items key e false is h = λ x m. elim (from_append x items ((key, e) ∷ []) m) [
  | inl a ↦ at_append items ((key, e) ∷ []) x.0 x.1 (h x a)
  | inr q ↦ elim q [
    | inl s ↦ subst (λ (z : ItemName × Entry). item_at (items ++ (key, e) ∷ []) z.0 ≡ Some z.1) (sym s) (at_past items ((key, e) ∷ []) key (or_none (is_some (item_at items key)) (has (full_numbers items) e.full) is) ∙ at_one key e)
    | inr n ↦ absurd n
  ]
]

item_firsts : (s : Numbering) (i : ℕ) (x : InterfaceItemSyn) → Firsts s.items → Firsts (add_item s i x).items
item_firsts s i x h =
    let key : ItemName = record { interface = i; name = (item_name x).name } in
    let e : Entry = record { full = place_of s.table (full_name s.table i (item_name x).name); sort = item_sort x } in
    push_firsts s.items key e (is_some (item_at s.items key) || has (full_numbers s.items) e.full) refl h

items_firsts : (s : Numbering) (i : ℕ) (xs : List InterfaceItemSyn) → Firsts s.items → Firsts (add_items s i xs).items
items_firsts s i [] h = h
items_firsts s i (x ∷ xs) h = items_firsts (add_item s i x) i xs (item_firsts s i x h)

one_firsts : (s : Numbering) (f : InterfaceSyn) (b : Bool) → Firsts s.items → Firsts (if b then s else add_items s f.name.name f.items).items
one_firsts s f true h = h
one_firsts s f false h = items_firsts s f.name.name f.items h

all_firsts : (seen : List ℕ) (s : Numbering) (fs : List InterfaceSyn) → Firsts s.items → Firsts (add_interfaces seen s fs).items
all_firsts seen s [] h = h
all_firsts seen s (f ∷ fs) h = all_firsts (with_number seen f.name.name) (add_interface seen s f) fs (one_firsts s f (has seen f.name.name) h)

-- a name is that of an item among these, of the interface i
abbrev pub NamesOne : ℕ → List InterfaceItemSyn → ItemName → Type 0
NamesOne i xs k = (y : InterfaceItemSyn) × IsIn y xs × (k ≡ record { interface = i; name = (item_name y).name })

push_from : (items : Items) (key : ItemName) (e : Entry) (b : Bool) (x : ItemName × Entry) → IsIn x (if b then items else items ++ (key, e) ∷ []) → IsIn x items ⊎ (x.0 ≡ key)
push_from items key e true x m = inl m
push_from items key e false x m = elim (from_append x items ((key, e) ∷ []) m) [
  | inl a ↦ inl a
  | inr q ↦ elim q [ inl s ↦ inr (ap (λ (z : ItemName × Entry). z.0) s) | inr n ↦ absurd n ]
]

item_from : (s : Numbering) (i : ℕ) (y : InterfaceItemSyn) (x : ItemName × Entry) → IsIn x (add_item s i y).items → IsIn x s.items ⊎ (x.0 ≡ record { interface = i; name = (item_name y).name })
item_from s i y x m =
    let key : ItemName = record { interface = i; name = (item_name y).name } in
    let e : Entry = record { full = place_of s.table (full_name s.table i (item_name y).name); sort = item_sort y } in
    push_from s.items key e (is_some (item_at s.items key) || has (full_numbers s.items) e.full) x m

items_from : (s : Numbering) (i : ℕ) (ys : List InterfaceItemSyn) (x : ItemName × Entry) → IsIn x (add_items s i ys).items → IsIn x s.items ⊎ NamesOne i ys x.0
items_from s i [] x m = inl m
items_from s i (y ∷ ys) x m = elim (items_from (add_item s i y) i ys x m) [
  | inl a ↦ elim (item_from s i y x a) [ inl c ↦ inl c | inr k ↦ inr (y, inl refl, k) ]
  | inr w ↦ inr (w.0, inr w.1, w.2)
]

one_from : (s : Numbering) (f : InterfaceSyn) (b : Bool) (x : ItemName × Entry) → IsIn x (if b then s else add_items s f.name.name f.items).items → IsIn x s.items ⊎ NamesOne f.name.name f.items x.0
one_from s f true x m = inl m
one_from s f false x m = items_from s f.name.name f.items x m

all_from : (seen : List ℕ) (s : Numbering) (fs : List InterfaceSyn) (x : ItemName × Entry) → IsIn x (add_interfaces seen s fs).items → IsIn x s.items ⊎ ((f : InterfaceSyn) × IsIn f fs × NamesOne f.name.name f.items x.0)
all_from seen s [] x m = inl m
all_from seen s (f ∷ fs) x m = elim (all_from (with_number seen f.name.name) (add_interface seen s f) fs x m) [
  | inl a ↦ elim (one_from s f (has seen f.name.name) x a) [ inl c ↦ inl c | inr w ↦ inr (f, inl refl, w) ]
  | inr w ↦ inr (w.0, inr w.1, w.2)
]

-- numbers stay among those that are found
entry_kept : (ns : List ℕ) (o : Option Entry) (n : ℕ) → has ns n ≡ true → has (with_entry ns o) n ≡ true
entry_kept ns None n h = h
entry_kept ns (Some e) n h = kept_with ns e.full n (has ns e.full) h

items_kept : (items : Items) (ns : List ℕ) (i : ℕ) (xs : List InterfaceItemSyn) (n : ℕ) → has ns n ≡ true → has (with_items items ns i xs) n ≡ true
items_kept items ns i [] n h = h
items_kept items ns i (x ∷ xs) n h = items_kept items (with_entry ns (item_in items (Some i) (item_name x).name)) i xs n (entry_kept ns (item_in items (Some i) (item_name x).name) n h)

all_kept : (items : Items) (ns : List ℕ) (fs : List InterfaceSyn) (n : ℕ) → has ns n ≡ true → has (with_interfaces items ns fs) n ≡ true
all_kept items ns [] n h = h
all_kept items ns (f ∷ fs) n h = all_kept items (with_items items ns f.name.name f.items) fs n (items_kept items ns f.name.name f.items n h)

entry_there : (ns : List ℕ) (o : Option Entry) (e : Entry) → o ≡ Some e → has (with_entry ns o) e.full ≡ true
entry_there ns o e s = subst (λ (z : Option Entry). has (with_entry ns z) e.full ≡ true) (sym s) (there_with ns e.full (has ns e.full) refl)

items_there : (items : Items) (ns : List ℕ) (i : ℕ) (xs : List InterfaceItemSyn) (k : ItemName) (e : Entry) → NamesOne i xs k → item_at items k ≡ Some e → has (with_items items ns i xs) e.full ≡ true
items_there items ns i [] k e w s = absurd (w.1)
items_there items ns i (x ∷ xs) k e (y, inl q, p) s =
    items_kept items (with_entry ns (item_in items (Some i) (item_name x).name)) i xs e.full
    (entry_there ns (item_in items (Some i) (item_name x).name) e (sym (ap (item_at items) (p ∙ ap (λ (z : InterfaceItemSyn). record { interface = i; name = (item_name z).name }) q)) ∙ s))
items_there items ns i (x ∷ xs) k e (y, inr m, p) s = items_there items (with_entry ns (item_in items (Some i) (item_name x).name)) i xs k e (y, m, p) s

all_there : (items : Items) (ns : List ℕ) (fs : List InterfaceSyn) (f : InterfaceSyn) (k : ItemName) (e : Entry) → IsIn f fs → NamesOne f.name.name f.items k → item_at items k ≡ Some e → has (with_interfaces items ns fs) e.full ≡ true
all_there items ns [] f k e m w s = absurd m
all_there items ns (g ∷ fs) f k e (inl q) w s =
    all_kept items (with_items items ns g.name.name g.items) fs e.full
    (items_there items ns g.name.name g.items k e (subst (λ (z : InterfaceSyn). NamesOne z.name.name z.items k) q w) s)
all_there items ns (g ∷ fs) f k e (inr m) w s = all_there items (with_items items ns g.name.name g.items) fs f k e m w s

-- a number is that of an item
abbrev pub Full : Items → ℕ → Type 0
Full es n = (x : ItemName × Entry) × IsIn x es × (x.1.full ≡ n)

full_if : (e : ItemName × Entry) (es : Items) (n : ℕ) (b : Bool) → (has (full_numbers es) n ≡ true → Full es n) → nat_eq n e.1.full ≡ b → b || has (full_numbers es) n ≡ true → Full (e ∷ es) n
full_if e es n true left s h = (e, inl refl, sym (eqb-true n e.1.full s))
full_if e es n false left s h = let w = left h in (w.0, inr w.1, w.2)

full_from : (es : Items) (n : ℕ) → has (full_numbers es) n ≡ true → Full es n
full_from [] n h = absurd (true≢false (sym h))
full_from (e ∷ es) n h = full_if e es n (nat_eq n e.1.full) (full_from es n) refl h

same_truth : (a b : Bool) → (a ≡ true → b ≡ true) → (b ≡ true → a ≡ true) → a ≡ b
same_truth true true f g = refl
same_truth true false f g = absurd (true≢false (sym (f refl)))
same_truth false true f g = absurd (true≢false (sym (g refl)))
same_truth false false f g = refl

pub found_are : (table : List (List ℕ)) (fs : List InterfaceSyn) (n : ℕ) → has (with_interfaces (items_of table fs) [] fs) n ≡ has (full_numbers (items_of table fs)) n
found_are table fs n =
    let items : Items = items_of table fs in
    same_truth (has (with_interfaces items [] fs) n) (has (full_numbers items) n)
    (λ h. elim (found_in items [] fs n h) [ inl a ↦ absurd (true≢false (sym a)) | inr b ↦ b ])
    (λ h. let x = full_from items n h in
    elim (all_from [] (numbering table []) fs x.0 x.1) [
      | inl a ↦ absurd a
      | inr w ↦ subst (λ (k : ℕ). has (with_interfaces items [] fs) k ≡ true) x.2
          (all_there items [] fs w.0 x.0.0 x.0.1 w.1 w.2 (all_firsts [] (numbering table []) fs (λ y m. absurd m) x.0 x.1))
    ])

-- so do those that are found in an index of the items
pub found_by : (index : Items) (ns : List ℕ) (fs : List InterfaceSyn) (table : List (List ℕ)) (n : ℕ) → index ≡ items_of table fs → ns ≡ with_interfaces index [] fs → has ns n ≡ has (full_numbers index) n
found_by index ns fs table n is found =
    ap (λ (l : List ℕ). has l n) (found ∙ ap (λ (i : Items). with_interfaces i [] fs) is) ∙ found_are table fs n ∙ ap (λ (i : Items). has (full_numbers i) n) (sym is)
