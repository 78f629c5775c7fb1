-- What the items of interfaces have by name: each is the first of its name in the first interface of its name, where the table has the
-- full names of all items.
use Rattle.std.proofs.Common.{◌≡◌, ℕ, Bool, true, false, ◌&&◌, ◌||◌, nat_eq, List, [], ◌∷◌, ◌++◌, Option, Some, None, is_some, refl, sym, ap, ◌∙◌, subst, ◌⊎◌, inl, inr, true≢false, if◌then◌else◌, eq-eqb}
use Rattle.std.proofs.lemmas.Bool.{eqb-true}
use Rattle.th_tree.specs.Names.{is_there, place_of}
use Rattle.th_tree.specs.Trees.{InterfaceItemSyn, InterfaceSyn}
use Rattle.th_type.specs.Lists.{IsIn}
use Rattle.th_hier.specs.declared.item.ItemName.{ItemName}
use Rattle.th_hier.specs.declared.item.Entry.{Entry}
use Rattle.th_hier.specs.Naming.{Items, has, with_number, same_item, item_at}
use Rattle.th_hier.specs.Spots.{item_name}
use Rattle.th_hier.specs.Numbering.{full_name, item_sort, full_numbers, with_item, Numbering, numbering, add_items, add_interfaces}
use Rattle.th_hier.specs.Hierarchies.{items_of}
use Rattle.th_contexts.proofs.Different.{has_push}

none_some : {A : Type 0} (a : A) → None ≡ Some a → ⊥
none_some a h = cc

some_is : {A : Type 0} (a b : A) → Some a ≡ Some b → a ≡ b
some_is a b h = cc

parts_and : (a b : Bool) → (a && b) ≡ true → (a ≡ true) × (b ≡ true)
parts_and true b h = (refl, h)
parts_and false b h = absurd (true≢false (sym h))

or_free : (a b : Bool) → (a || b) ≡ false → (a ≡ false) × (b ≡ false)
or_free true b h = absurd (true≢false h)
or_free false b h = (refl, h)

or_false : (a : Bool) → (a || false) ≡ a
or_false true = refl
or_false false = refl

or_or : (a b c : Bool) → (a || b) ≡ true → (a || (b || c)) ≡ true
or_or true b c h = refl
or_or false b c h = ap (λ (x : Bool). x || c) h

-- the first item of that name, and the first interface of that name
abbrev pub first_named : ℕ → List InterfaceItemSyn → Option InterfaceItemSyn
first_named n [] = None
first_named n (x ∷ xs) = if nat_eq n (item_name x).name then Some x else first_named n xs

abbrev pub first_interface : ℕ → List InterfaceSyn → Option InterfaceSyn
first_interface i [] = None
first_interface i (f ∷ fs) = if nat_eq i f.name.name then Some f else first_interface i fs

-- the item is the first of that name in the first interface of that name
abbrev pub IsFirst : List InterfaceSyn → ℕ → ℕ → InterfaceItemSyn → Type 0
IsFirst fs i n x = (f : InterfaceSyn) × (first_interface i fs ≡ Some f) × (first_named n f.items ≡ Some x)

abbrev key : ℕ → ℕ → ItemName
key i n = record { interface = i; name = n }

-- look-ups
same_self : (k : ItemName) → same_item k k ≡ true
same_self k = ap (λ (b : Bool). b && nat_eq k.name k.name) (eq-eqb k.interface k.interface refl) ∙ eq-eqb k.name k.name refl

other_if : (v : Entry) (x y : Option Entry) (b : Bool) → x ≡ y → (if b then Some v else x) ≡ (if b then Some v else y)
other_if v x y true h = refl
other_if v x y false h = h

at_other : (items : Items) (k l : ItemName) (e : Entry) → same_item k l ≡ false → item_at (items ++ (l, e) ∷ []) k ≡ item_at items k
at_other [] k l e h = ap (λ (b : Bool). if b then Some e else None) h
at_other (x ∷ items) k l e h = other_if x.1 (item_at (items ++ (l, e) ∷ []) k) (item_at items k) (same_item k x.0) (at_other items k l e h)

last_if : (v e : Entry) (o x : Option Entry) (b : Bool) → (is_some o ≡ false → x ≡ Some e) → is_some (if b then Some v else o) ≡ false → (if b then Some v else x) ≡ Some e
last_if v e o x true h s = absurd (true≢false s)
last_if v e o x false h s = h s

at_last : (items : Items) (k : ItemName) (e : Entry) → is_some (item_at items k) ≡ false → item_at (items ++ (k, e) ∷ []) k ≡ Some e
at_last [] k e h = ap (λ (b : Bool). if b then Some e else None) (same_self k)
at_last (x ∷ items) k e h = last_if x.1 e (item_at items k) (item_at (items ++ (k, e) ∷ []) k) (same_item k x.0) (at_last items k e) h

fulls_push : (items : Items) (l : ItemName) (e : Entry) (n : ℕ) → has (full_numbers (items ++ (l, e) ∷ [])) n ≡ (has (full_numbers items) n || nat_eq n e.full)
fulls_push [] l e n = or_false (nat_eq n e.full)
fulls_push (x ∷ items) l e n = ap (λ (b : Bool). nat_eq n x.1.full || b) (fulls_push items l e n) ∙ or_three (nat_eq n x.1.full) (has (full_numbers items) n) (nat_eq n e.full)
  where
    or_three : (a b c : Bool) → (a || (b || c)) ≡ ((a || b) || c)
    or_three true b c = refl
    or_three false b c = refl

module _ (T : List (List ℕ)) where
  abbrev full : ℕ → ℕ → ℕ
  full i n = place_of T (full_name T i n)

  abbrev entry : ℕ → InterfaceItemSyn → Entry
  entry i x = record { full = full i (item_name x).name; sort = item_sort x }

  -- with items of an interface, by a table that stays as it is
  abbrev put : ℕ → Items → List InterfaceItemSyn → Items
  put i items [] = items
  put i items (x ∷ xs) = put i (with_item items (key i (item_name x).name) (entry i x)) xs

  abbrev put_one : List ℕ → Items → InterfaceSyn → Items
  put_one seen items f = if has seen f.name.name then items else put f.name.name items f.items

  abbrev put_all : List ℕ → Items → List InterfaceSyn → Items
  put_all seen items [] = items
  put_all seen items (f ∷ fs) = put_all (with_number seen f.name.name) (put_one seen items f) fs

  abbrev ItemsThere : ℕ → List InterfaceItemSyn → Type 0
  ItemsThere i xs = (x : InterfaceItemSyn) → IsIn x xs → is_there T (full_name T i (item_name x).name) ≡ true

  put_is : (i : ℕ) (items : Items) (xs : List InterfaceItemSyn) → ItemsThere i xs → add_items (numbering T items) i xs ≡ numbering T (put i items xs)
  put_is i items [] h = refl
  put_is i items (x ∷ xs) h =
      ap (λ (b : Bool). add_items (numbering (if b then T else T ++ full_name T i (item_name x).name ∷ []) (with_item items (key i (item_name x).name) (entry i x))) i xs) (h x (inl refl))
      ∙ put_is i (with_item items (key i (item_name x).name) (entry i x)) xs (λ y m. h y (inr m))

  one_is : (items : Items) (f : InterfaceSyn) (b : Bool) → ItemsThere f.name.name f.items
      → (if b then numbering T items else add_items (numbering T items) f.name.name f.items) ≡ numbering T (if b then items else put f.name.name items f.items)
  one_is items f true h = refl
  one_is items f false h = put_is f.name.name items f.items h

  all_is : (seen : List ℕ) (items : Items) (fs : List InterfaceSyn) → ((f : InterfaceSyn) → IsIn f fs → ItemsThere f.name.name f.items) → add_interfaces seen (numbering T items) fs ≡ numbering T (put_all seen items fs)
  all_is seen items [] h = refl
  all_is seen items (f ∷ fs) h =
      ap (λ (s : Numbering). add_interfaces (with_number seen f.name.name) s fs) (one_is items f (has seen f.name.name) (h f (inl refl)))
      ∙ all_is (with_number seen f.name.name) (put_one seen items f) fs (λ g m. h g (inr m))

  -- no further item can have that name
  abbrev Settled : Items → ℕ → ℕ → Type 0
  Settled items i n = (is_some (item_at items (key i n)) || has (full_numbers items) (full i n)) ≡ true

  -- what stays where no further item can have the name
  abbrev Stays : ℕ → ℕ → Items → Items → Type 0
  Stays j n items later = (item_at later (key j n) ≡ item_at items (key j n)) × Settled later j n

  settled_push : (items : Items) (j n : ℕ) (l : ItemName) (e : Entry) → same_item (key j n) l ≡ false → Settled items j n → Stays j n items (items ++ (l, e) ∷ [])
  settled_push items j n l e h s = (
    at_other items (key j n) l e h,
    ap (λ (o : Option Entry). is_some o || has (full_numbers (items ++ (l, e) ∷ [])) (full j n)) (at_other items (key j n) l e h)
        ∙ ap (λ (b : Bool). is_some (item_at items (key j n)) || b) (fulls_push items l e (full j n))
        ∙ or_or (is_some (item_at items (key j n))) (has (full_numbers items) (full j n)) (nat_eq (full j n) e.full) s,
  )

  stays_if : (i : ℕ) (x : InterfaceItemSyn) (items : Items) (j n : ℕ) (b t : Bool) → (is_some (item_at items (key i (item_name x).name)) || has (full_numbers items) (full i (item_name x).name)) ≡ b
      → same_item (key j n) (key i (item_name x).name) ≡ t → Settled items j n → Stays j n items (if b then items else items ++ (key i (item_name x).name, entry i x) ∷ [])
  stays_if i x items j n true t e h s = (refl, s)
  stays_if i x items j n false true e h s =
      let p = parts_and (nat_eq j i) (nat_eq n (item_name x).name) h in
      let moved : Settled items i (item_name x).name = subst (λ (k : ℕ). Settled items k (item_name x).name) (eqb-true j i p.0) (subst (λ (k : ℕ). Settled items j k) (eqb-true n (item_name x).name p.1) s) in
      absurd (true≢false (sym moved ∙ e))
  stays_if i x items j n false false e h s = settled_push items j n (key i (item_name x).name) (entry i x) h s

  put_stays : (i : ℕ) (items : Items) (xs : List InterfaceItemSyn) (j n : ℕ) → Settled items j n → item_at (put i items xs) (key j n) ≡ item_at items (key j n)
  put_stays i items [] j n s = refl
  put_stays i items (x ∷ xs) j n s =
      let next = stays_if i x items j n (is_some (item_at items (key i (item_name x).name)) || has (full_numbers items) (full i (item_name x).name)) (same_item (key j n) (key i (item_name x).name)) refl refl s in
      put_stays i (with_item items (key i (item_name x).name) (entry i x)) xs j n next.1 ∙ next.0

  -- what is found after items of an interface was found before, or is the first of its name among them
  abbrev FoundNew : ℕ → List InterfaceItemSyn → ℕ → ℕ → Entry → Type 0
  FoundNew i xs j n e = (x : InterfaceItemSyn) × (i ≡ j) × (first_named n xs ≡ Some x) × (e.sort ≡ item_sort x)

  abbrev first_if : ℕ → InterfaceItemSyn → List InterfaceItemSyn → Bool → Option InterfaceItemSyn
  first_if n x xs b = if b then Some x else first_named n xs

  later_first : (i : ℕ) (x : InterfaceItemSyn) (xs : List InterfaceItemSyn) (j n : ℕ) (e : Entry) (b : Bool) → nat_eq n (item_name x).name ≡ b → same_item (key j n) (key i (item_name x).name) ≡ false → FoundNew i xs j n e → FoundNew i (x ∷ xs) j n e
  later_first i x xs j n e true s h (y, q, f, t) =
      absurd (true≢false (sym (ap (λ (b : Bool). b && nat_eq n (item_name x).name) (eq-eqb j i (sym q)) ∙ s) ∙ h))
  later_first i x xs j n e false s h (y, q, f, t) = (y, q, ap (first_if n x xs) s ∙ f, t)

  same_put : (i : ℕ) (x : InterfaceItemSyn) (items : Items) (j n : ℕ) (b : Bool) → same_item (key j n) (key i (item_name x).name) ≡ false → item_at (if b then items else items ++ (key i (item_name x).name, entry i x) ∷ []) (key j n) ≡ item_at items (key j n)
  same_put i x items j n true h = refl
  same_put i x items j n false h = at_other items (key j n) (key i (item_name x).name) (entry i x) h

  -- the item itself
  here_if : (i : ℕ) (x : InterfaceItemSyn) (xs : List InterfaceItemSyn) (items : Items) (e : Entry) (b : Bool) → (is_some (item_at items (key i (item_name x).name)) || has (full_numbers items) (full i (item_name x).name)) ≡ b
      → item_at (put i (if b then items else items ++ (key i (item_name x).name, entry i x) ∷ []) xs) (key i (item_name x).name) ≡ Some e
      → (item_at items (key i (item_name x).name) ≡ Some e) ⊎ FoundNew i (x ∷ xs) i (item_name x).name e
  here_if i x xs items e true s h = inl (sym (put_stays i items xs i (item_name x).name s) ∙ h)
  here_if i x xs items e false s h =
      let n : ℕ = (item_name x).name in
      let p = or_free (is_some (item_at items (key i n))) (has (full_numbers items) (full i n)) s in
      let last = at_last items (key i n) (entry i x) p.0 in
      let settled : Settled (items ++ (key i n, entry i x) ∷ []) i n = ap (λ (o : Option Entry). is_some o || has (full_numbers (items ++ (key i n, entry i x) ∷ [])) (full i n)) last in
      let is = some_is (entry i x) e (sym (put_stays i (items ++ (key i n, entry i x) ∷ []) xs i n settled ∙ last) ∙ h) in
      inr (x, refl, ap (first_if n x xs) (eq-eqb n n refl), ap (λ (y : Entry). y.sort) (sym is))

  abbrev Found : ℕ → List InterfaceItemSyn → Items → ℕ → ℕ → Entry → Type 0
  Found i xs items j n e = (item_at items (key j n) ≡ Some e) ⊎ FoundNew i xs j n e

  found_if : (i : ℕ) (x : InterfaceItemSyn) (xs : List InterfaceItemSyn) (items : Items) (j n : ℕ) (e : Entry) (t : Bool) → same_item (key j n) (key i (item_name x).name) ≡ t
      → ((later : Items) → item_at (put i later xs) (key j n) ≡ Some e → Found i xs later j n e)
      → item_at (put i (with_item items (key i (item_name x).name) (entry i x)) xs) (key j n) ≡ Some e → Found i (x ∷ xs) items j n e
  found_if i x xs items j n e true s rest h =
      let m : ℕ = (item_name x).name in
      let p = parts_and (nat_eq j i) (nat_eq n m) s in
      let P : ℕ → ℕ → Type 0 = λ a b. item_at (put i (with_item items (key i m) (entry i x)) xs) (key a b) ≡ Some e → Found i (x ∷ xs) items a b e in
      let here : P i m = here_if i x xs items e (is_some (item_at items (key i m)) || has (full_numbers items) (full i m)) refl in
      subst (λ (b : ℕ). P j b) (sym (eqb-true n m p.1)) (subst (λ (a : ℕ). P a m) (sym (eqb-true j i p.0)) here) h
  found_if i x xs items j n e false s rest h =
      let m : ℕ = (item_name x).name in
      elim (rest (with_item items (key i m) (entry i x)) h) [
        | inl a ↦ inl (sym (same_put i x items j n (is_some (item_at items (key i m)) || has (full_numbers items) (full i m)) s) ∙ a)
        | inr q ↦ inr (later_first i x xs j n e (nat_eq n m) refl s q)
      ]

  put_found : (i : ℕ) (xs : List InterfaceItemSyn) (items : Items) (j n : ℕ) (e : Entry) → item_at (put i items xs) (key j n) ≡ Some e → Found i xs items j n e
  put_found i [] items j n e h = inl h
  put_found i (x ∷ xs) items j n e h = found_if i x xs items j n e (same_item (key j n) (key i (item_name x).name)) refl (λ later k. put_found i xs later j n e k) h

  -- what is found after interfaces was found before, or is the first of its name in the first interface of its name
  abbrev FirstOf : List ℕ → List InterfaceSyn → ℕ → ℕ → Entry → Type 0
  FirstOf seen fs j n e = (x : InterfaceItemSyn) × (has seen j ≡ false) × IsFirst fs j n x × (e.sort ≡ item_sort x)

  abbrev interface_if : ℕ → InterfaceSyn → List InterfaceSyn → Bool → Option InterfaceSyn
  interface_if j f fs b = if b then Some f else first_interface j fs

  one_found : (f : InterfaceSyn) (fs : List InterfaceSyn) (seen : List ℕ) (items : Items) (j n : ℕ) (e : Entry) (b : Bool) → has seen f.name.name ≡ b
      → item_at (if b then items else put f.name.name items f.items) (key j n) ≡ Some e → (item_at items (key j n) ≡ Some e) ⊎ FirstOf seen (f ∷ fs) j n e
  one_found f fs seen items j n e true s h = inl h
  one_found f fs seen items j n e false s h = elim (put_found f.name.name f.items items j n e h) [
    | inl a ↦ inl a
    | inr q ↦ inr (
      q.0,
      subst (λ (k : ℕ). has seen k ≡ false) q.1 s,
      (f, subst (λ (k : ℕ). interface_if k f fs (nat_eq k f.name.name) ≡ Some f) q.1 (ap (interface_if f.name.name f fs) (eq-eqb f.name.name f.name.name refl)), q.2),
      q.3,
    )
  ]

  free_of : (ns : List ℕ) (k n : ℕ) (b : Bool) → has ns k ≡ b → has (if b then ns else ns ++ k ∷ []) n ≡ false → (has ns n ≡ false) × (nat_eq n k ≡ false)
  free_of ns k n true s h = (h, other (nat_eq n k) refl)
    where
      other : (t : Bool) → nat_eq n k ≡ t → nat_eq n k ≡ false
      other true e = absurd (true≢false (sym (subst (λ (m : ℕ). has ns m ≡ true) (sym (eqb-true n k e)) s) ∙ h))
      other false e = e
  free_of ns k n false s h = or_free (has ns n) (nat_eq n k) (sym (has_push ns k n) ∙ h)

  further_found : (f : InterfaceSyn) (fs : List InterfaceSyn) (seen : List ℕ) (j n : ℕ) (e : Entry) → FirstOf (with_number seen f.name.name) fs j n e → FirstOf seen (f ∷ fs) j n e
  further_found f fs seen j n e (x, s, (g, a, b), t) =
      let free = free_of seen f.name.name j (has seen f.name.name) refl s in
      (x, free.0, (g, ap (interface_if j f fs) free.1 ∙ a, b), t)

  all_found : (seen : List ℕ) (fs : List InterfaceSyn) (items : Items) (j n : ℕ) (e : Entry) → item_at (put_all seen items fs) (key j n) ≡ Some e → (item_at items (key j n) ≡ Some e) ⊎ FirstOf seen fs j n e
  all_found seen [] items j n e h = inl h
  all_found seen (f ∷ fs) items j n e h = elim (all_found (with_number seen f.name.name) fs (put_one seen items f) j n e h) [
    | inl a ↦ one_found f fs seen items j n e (has seen f.name.name) refl a
    | inr q ↦ inr (further_found f fs seen j n e q)
  ]

  -- an item that is found by name is the first of its name in the first interface of its name
  pub item_first : (fs : List InterfaceSyn) (j n : ℕ) (e : Entry) → ((f : InterfaceSyn) → IsIn f fs → ItemsThere f.name.name f.items) → item_at (items_of T fs) (key j n) ≡ Some e
      → (x : InterfaceItemSyn) × IsFirst fs j n x × (e.sort ≡ item_sort x)
  item_first fs j n e there h =
      elim (all_found [] fs [] j n e (sym (ap (λ (s : Numbering). item_at s.items (key j n)) (all_is [] [] fs there)) ∙ h)) [
        | inl a ↦ absurd (none_some e a)
        | inr q ↦ (q.0, q.2, q.3)
      ]
