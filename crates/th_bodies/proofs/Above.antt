-- The class that a class inherits is among the items that a module is judged by.
use Rattle.std.proofs.Common.{◌≡◌, ℕ, Bool, true, false, ◌||◌, nat_eq, List, [], ◌∷◌, ◌++◌, length, map, Option, Some, None, is_some, option_map, refl, sym, ap, ◌∙◌, subst, ◌⊎◌, inl, inr, true≢false, if◌then◌else◌, eq-eqb}
use Rattle.std.specs.Prelude.{position}
use Rattle.std.proofs.lemmas.Bool.{eqb-true}
use Rattle.th_tree.specs.declared.tree.Ident.{Ident}
use Rattle.th_tree.specs.Trees.{NamedSyn, InterfaceItemSyn, exception_item, type_item, class_item, routine_item, InterfaceSyn, ModuleItemSyn, module_class, module_routine, ModuleSyn}
use Rattle.th_type.specs.Lists.{IsIn}
use Rattle.th_type.specs.Types.{TypeExprs}
use Rattle.th_type.specs.Declarations.{DeclaredType}
use Rattle.th_hier.specs.declared.item.ItemName.{ItemName}
use Rattle.th_hier.specs.declared.item.Sort.{Sort}
use Rattle.th_hier.specs.declared.item.Sort.TheVariants.{Exception, Declared, Class, Routine, Iterator}
use Rattle.th_hier.specs.declared.item.Entry.{Entry}
use Rattle.th_hier.specs.declared.item.Referent.{Referent}
use Rattle.th_hier.specs.declared.item.Referent.TheVariants as referents
use Rattle.th_hier.specs.Hierarchies.{items_of}
use Rattle.th_hier.specs.Naming.{Items, Visible, has, is_number, with_number, same_item, item_at, item_in, own_or, param_or, meaning, named_meaning}
use Rattle.th_hier.specs.Numbering.{full_name, item_sort, routine_sort}
use Rattle.th_hier.specs.Resolve.{count, resolved_types}
use Rattle.th_hier.specs.Spots.{item_name}
use Rattle.th_hier.specs.Texts.{visible, whole_meant}
use Rattle.th_tree.specs.Names.{is_there}
use Rattle.th_rules.specs.Context.{ClassInfo, Context, Head, exception_head, type_head, class_head, routine_head, Item}
use Rattle.th_rules.specs.Classes.{class_at, class_or}
use Rattle.th_contexts.proofs.Different.{has_push}
use Rattle.th_module_rules.specs.Own.{all_items, head_item, own_full, own_items as own_named, own_scope}
use Rattle.th_module_rules.specs.Inheriting.{class_meant, class_sort_meant}
use Rattle.th_module_rules.specs.Contexts.{Base, class_type, full_in, inherited_type, interface_head, interface_items, introduced, item, item_with, items_of_interface, module_item_name, own_class_info, own_head, own_items, own_sigs}
use Rattle.th_module_rules.specs.Modules.{inherited_at, inherited_with}
use Rattle.th_bodies.proofs.Numbered.{first_interface, first_named, item_first}

none_some : {A : Type 0} (a : A) → None ≡ Some a → ⊥
none_some a h = cc

some_is : {A : Type 0} (a b : A) → Some a ≡ Some b → a ≡ b
some_is a b h = cc

-- a class of that full name is among items
abbrev pub ClassThere : List Item → ℕ → Type 0
ClassThere is n = is_some (class_at is n) ≡ true

class_if : (c : ClassInfo) (o : Option ClassInfo) (b : Bool) → is_some o ≡ true → is_some (if b then Some c else o) ≡ true
class_if c o true h = refl
class_if c o false h = h

class_after : (full n : ℕ) (h : Head) (o : Option ClassInfo) → is_some o ≡ true → is_some (class_or full n h o) ≡ true
class_after full n (exception_head t) o s = s
class_after full n (type_head k) o s = s
class_after full n (class_head c) o s = class_if c o (nat_eq full n) s
class_after full n (routine_head r) o s = s

class_here : (full : ℕ) (c : ClassInfo) (o : Option ClassInfo) → is_some (class_or full full (class_head c) o) ≡ true
class_here full c o = ap (λ (b : Bool). is_some (if b then Some c else o)) (eq-eqb full full refl)

class_left_or : (full n : ℕ) (h : Head) (o p : Option ClassInfo) → (is_some o ≡ true → is_some p ≡ true) → is_some (class_or full n h o) ≡ true → is_some (class_or full n h p) ≡ true
class_left_or full n (exception_head t) o p r s = r s
class_left_or full n (type_head k) o p r s = r s
class_left_or full n (class_head c) o p r s = by (nat_eq full n) s
  where
    by : (b : Bool) → is_some (if b then Some c else o) ≡ true → is_some (if b then Some c else p) ≡ true
    by true q = refl
    by false q = r q
class_left_or full n (routine_head h) o p r s = r s

class_left : (is js : List Item) (n : ℕ) → ClassThere is n → ClassThere (is ++ js) n
class_left [] js n h = absurd (true≢false (sym h))
class_left (i ∷ is) js n h = class_left_or i.full n i.head (class_at is n) (class_at (is ++ js) n) (class_left is js n) h

class_right : (is js : List Item) (n : ℕ) → ClassThere js n → ClassThere (is ++ js) n
class_right [] js n h = h
class_right (i ∷ is) js n h = class_after i.full n i.head (class_at (is ++ js) n) (class_right is js n h)

-- an item of the sort of a class is a class
sort_routine : (b : Bool) (k j : ℕ) → routine_sort b k ≡ Class j → ⊥
sort_routine true k j h = cc
sort_routine false k j h = cc

-- the own classes of a module
module _ (table : List (List ℕ)) (items : Items) (m : ModuleSyn) (D : List DeclaredType) (bs : List Base) (all : Items) (v : Visible) where
  abbrev full : ℕ → ℕ
  full n = own_full table items m n

  abbrev named : List ℕ → List ModuleItemSyn → Items
  named seen xs = own_named table items m seen (map head_item xs)

  abbrev made : List ℕ → List ModuleItemSyn → List Item
  made seen xs = own_items full D bs all v seen xs

  abbrev key : ℕ → ItemName
  key n = record { interface = own_scope table m; name = n }

  abbrev Classes : List ℕ → List ModuleItemSyn → ItemName → Entry → Type 0
  Classes seen xs k e = (j : ℕ) → item_at (named seen xs) k ≡ Some e → e.sort ≡ Class j → ClassThere (made seen xs) e.full

  -- an own item is found, or one after it
  class_if_here : (n : ℕ) (k : ItemName) (entry e : Entry) (c : ClassInfo) (rest : Items) (later : List Item) (j : ℕ) (b : Bool) → entry.full ≡ full n → ((i : ℕ) → item_at rest k ≡ Some e → e.sort ≡ Class i → ClassThere later e.full)
      → (if b then Some entry else item_at rest k) ≡ Some e → e.sort ≡ Class j → ClassThere (item None n (full n) (class_head c) ∷ later) e.full
  class_if_here n k entry e c rest later j true f r h s =
      subst (λ (l : ℕ). is_some (class_or (full n) l (class_head c) (class_at later l)) ≡ true) (sym f ∙ ap (λ (x : Entry). x.full) (some_is entry e h)) (class_here (full n) c (class_at later (full n)))
  class_if_here n k entry e c rest later j false f r h s = class_after (full n) e.full (class_head c) (class_at later e.full) (r j h s)

  routine_if_here : (n : ℕ) (k : ItemName) (entry e : Entry) (h : Head) (b t : Bool) (l : ℕ) (rest : Items) (later : List Item) (j : ℕ) → entry.sort ≡ routine_sort b l → ((i : ℕ) → item_at rest k ≡ Some e → e.sort ≡ Class i → ClassThere later e.full)
      → (if t then Some entry else item_at rest k) ≡ Some e → e.sort ≡ Class j → ClassThere (item None n (full n) h ∷ later) e.full
  routine_if_here n k entry e h b true l rest later j f r q s = absurd (sort_routine b l j (sym f ∙ ap (λ (x : Entry). x.sort) (some_is entry e q) ∙ s))
  routine_if_here n k entry e h b false l rest later j f r q s = class_after (full n) e.full h (class_at later e.full) (r j q s)

  class_seen : (c : ModuleItemSyn) (xs : List ModuleItemSyn) (seen : List ℕ) (k : ItemName) (e : Entry) (b : Bool) → Classes seen xs k e
      → ((j : ℕ) → item_at ((key (item_name (head_item c)).name, record { full = full (item_name (head_item c)).name; sort = item_sort (head_item c) }) ∷ named (with_number seen (item_name (head_item c)).name) xs) k ≡ Some e → e.sort ≡ Class j
      → ClassThere (item None (module_item_name c).name (full (module_item_name c).name) (own_head D bs all v c) ∷ made (with_number seen (module_item_name c).name) xs) e.full)
      → (j : ℕ)
      → item_at (if b then named seen xs else (key (item_name (head_item c)).name, record { full = full (item_name (head_item c)).name; sort = item_sort (head_item c) }) ∷ named (with_number seen (item_name (head_item c)).name) xs) k ≡ Some e
      → e.sort ≡ Class j
      → ClassThere (if b then made seen xs else item None (module_item_name c).name (full (module_item_name c).name) (own_head D bs all v c) ∷ made (with_number seen (module_item_name c).name) xs) e.full
  class_seen c xs seen k e true old new j h s = old j h s
  class_seen c xs seen k e false old new j h s = new j h s

  own_class_there : (seen : List ℕ) (xs : List ModuleItemSyn) (k : ItemName) (e : Entry) → Classes seen xs k e
  own_class_there seen [] k e = λ j h s. absurd (none_some e h)
  own_class_there seen (module_class c ∷ xs) k e =
      let n : ℕ = c.head.name.name in
      let entry : Entry = record { full = full n; sort = item_sort (head_item (module_class c)) } in
      let info : ClassInfo = own_class_info all v c (introduced D bs (own_class_info all v c []) (own_sigs all v c)) in
      class_seen (module_class c) xs seen k e (has seen n) (own_class_there seen xs k e)
      (λ j h s. class_if_here n k entry e info (named (with_number seen n) xs) (made (with_number seen n) xs) j (same_item k (key n)) refl (own_class_there (with_number seen n) xs k e) h s)
  own_class_there seen (module_routine r ∷ xs) k e =
      let n : ℕ = r.head.name.name in
      let entry : Entry = record { full = full n; sort = item_sort (head_item (module_routine r)) } in
      class_seen (module_routine r) xs seen k e (has seen n) (own_class_there seen xs k e)
      (λ j h s. routine_if_here n k entry e (own_head D bs all v (module_routine r)) r.head.iterator (same_item k (key n)) (length r.head.params) (named (with_number seen n) xs) (made (with_number seen n) xs) j refl (own_class_there (with_number seen n) xs k e) h s)

-- the classes of interfaces
module _ (items : Items) where
  abbrev of_one : Visible → ℕ → List ℕ → List InterfaceItemSyn → List Item
  of_one v i seen xs = items_of_interface items v i seen xs

  -- the item stands first
  class_first : (v : Visible) (i : ℕ) (x : InterfaceItemSyn) (j full : ℕ) (rest : List Item) → item_sort x ≡ Class j → full_in items i (item_name x).name ≡ Some full
      → ClassThere (item_with (Some i) (item_name x).name (full_in items i (item_name x).name) (interface_head items v x) ++ rest) full
  class_first v i (exception_item x) j full rest s f = absurd (cc)
  class_first v i (type_item x) j full rest s f = absurd (cc)
  class_first v i (class_item x) j full rest s f =
      ap (λ (o : Option ℕ). is_some (class_at (item_with (Some i) x.head.name.name o (interface_head items v (class_item x)) ++ rest) full)) f ∙ class_here full _ (class_at rest full)
  class_first v i (routine_item x) j full rest s f = absurd (sort_routine _ _ j s)

  seen_if : (xs ys : List Item) (full : ℕ) (b : Bool) → (b ≡ true → ClassThere xs full) → (b ≡ false → ClassThere ys full) → ClassThere (if b then xs else ys) full
  seen_if xs ys full true h k = h refl
  seen_if xs ys full false h k = k refl

  new_seen : (seen : List ℕ) (k n : ℕ) → has seen n ≡ false → nat_eq n k ≡ false → has seen k ≡ false → has (with_number seen k) n ≡ false
  new_seen seen k n a e f = ap (λ (b : Bool). has (if b then seen else seen ++ k ∷ []) n) f ∙ has_push seen k n ∙ ap (λ (b : Bool). b || nat_eq n k) a ∙ e

  abbrev Named : Visible → ℕ → ℕ → ℕ → ℕ → InterfaceItemSyn → List ℕ → List InterfaceItemSyn → Type 0
  Named v i n j full x seen xs = first_named n xs ≡ Some x → has seen n ≡ false → ClassThere (of_one v i seen xs) full

  named_if : (v : Visible) (i n j full : ℕ) (x y : InterfaceItemSyn) (seen : List ℕ) (xs : List InterfaceItemSyn) (b : Bool) → item_sort x ≡ Class j → full_in items i n ≡ Some full → nat_eq n (item_name y).name ≡ b
      → ((later : List ℕ) → Named v i n j full x later xs) → (if b then Some y else first_named n xs) ≡ Some x → has seen n ≡ false → ClassThere (of_one v i seen (y ∷ xs)) full
  named_if v i n j full x y seen xs true s f e rest h a =
      let m : ℕ = (item_name y).name in
      let q = eqb-true n m e in
      seen_if (of_one v i seen xs) (item_with (Some i) m (full_in items i m) (interface_head items v y) ++ of_one v i (with_number seen m) xs) full (has seen m)
      (λ t. absurd (true≢false (sym (subst (λ (k : ℕ). has seen k ≡ true) (sym q) t) ∙ a)))
      (λ t. class_first v i y j full (of_one v i (with_number seen m) xs) (ap item_sort (some_is y x h) ∙ s) (subst (λ (k : ℕ). full_in items i k ≡ Some full) q f))
  named_if v i n j full x y seen xs false s f e rest h a =
      let m : ℕ = (item_name y).name in
      seen_if (of_one v i seen xs) (item_with (Some i) m (full_in items i m) (interface_head items v y) ++ of_one v i (with_number seen m) xs) full (has seen m)
      (λ t. rest seen h a)
      (λ t. class_right (item_with (Some i) m (full_in items i m) (interface_head items v y)) (of_one v i (with_number seen m) xs) full (rest (with_number seen m) h (new_seen seen m n a e t)))

  named_there : (v : Visible) (i n j full : ℕ) (x : InterfaceItemSyn) (xs : List InterfaceItemSyn) → item_sort x ≡ Class j → full_in items i n ≡ Some full → (seen : List ℕ) → Named v i n j full x seen xs
  named_there v i n j full x [] s f seen = λ h a. absurd (none_some x h)
  named_there v i n j full x (y ∷ xs) s f seen = λ h a. named_if v i n j full x y seen xs (nat_eq n (item_name y).name) s f refl (λ later. named_there v i n j full x xs s f later) h a

  interface_if : (i n j full : ℕ) (x : InterfaceItemSyn) (f g : InterfaceSyn) (seen : List ℕ) (fs : List InterfaceSyn) (b : Bool) → item_sort x ≡ Class j → full_in items i n ≡ Some full → first_named n f.items ≡ Some x → nat_eq i g.name.name ≡ b
      → ((later : List ℕ) → first_interface i fs ≡ Some f → has later i ≡ false → ClassThere (interface_items items later fs) full) → (if b then Some g else first_interface i fs) ≡ Some f → has seen i ≡ false → ClassThere (interface_items items seen (g ∷ fs)) full
  interface_if i n j full x f g seen fs true s a q e rest h t =
      let m : ℕ = g.name.name in
      let r = eqb-true i m e in
      seen_if (interface_items items seen fs) (of_one (visible g) m [] g.items ++ interface_items items (with_number seen m) fs) full (has seen m)
      (λ u. absurd (true≢false (sym (subst (λ (k : ℕ). has seen k ≡ true) (sym r) u) ∙ t)))
      (λ u. class_left (of_one (visible g) m [] g.items) (interface_items items (with_number seen m) fs) full
      (named_there (visible g) m n j full x g.items s (subst (λ (k : ℕ). full_in items k n ≡ Some full) r a) [] (ap (λ (k : InterfaceSyn). first_named n k.items) (some_is g f h) ∙ q) refl))
  interface_if i n j full x f g seen fs false s a q e rest h t =
      let m : ℕ = g.name.name in
      seen_if (interface_items items seen fs) (of_one (visible g) m [] g.items ++ interface_items items (with_number seen m) fs) full (has seen m)
      (λ u. rest seen h t)
      (λ u. class_right (of_one (visible g) m [] g.items) (interface_items items (with_number seen m) fs) full (rest (with_number seen m) h (new_seen seen m i t e u)))

  interface_there : (i n j full : ℕ) (x : InterfaceItemSyn) (f : InterfaceSyn) (fs : List InterfaceSyn) → item_sort x ≡ Class j → full_in items i n ≡ Some full → first_named n f.items ≡ Some x
      → (seen : List ℕ) → first_interface i fs ≡ Some f → has seen i ≡ false → ClassThere (interface_items items seen fs) full
  interface_there i n j full x f [] s a q seen = λ h t. absurd (none_some f h)
  interface_there i n j full x f (g ∷ fs) s a q seen = λ h t. interface_if i n j full x f g seen fs (nat_eq i g.name.name) s a q refl (λ later. interface_there i n j full x f fs s a q later) h t

-- look-ups in two lists
at_if : (v e : Entry) (o x y : Option Entry) (b : Bool) → (o ≡ Some e → (x ≡ Some e) ⊎ (y ≡ Some e)) → (if b then Some v else o) ≡ Some e → ((if b then Some v else x) ≡ Some e) ⊎ (y ≡ Some e)
at_if v e o x y true r h = inl h
at_if v e o x y false r h = r h

at_both : (xs ys : Items) (k : ItemName) (e : Entry) → item_at (xs ++ ys) k ≡ Some e → (item_at xs k ≡ Some e) ⊎ (item_at ys k ≡ Some e)
at_both [] ys k e h = inr h
at_both (x ∷ xs) ys k e h = at_if x.1 e (item_at (xs ++ ys) k) (item_at xs k) (item_at ys k) (same_item k x.0) (at_both xs ys k e) h

-- the table has the full names of the items of interfaces
abbrev pub AllFull : List (List ℕ) → List InterfaceSyn → Type 0
AllFull table fs = (f : InterfaceSyn) → IsIn f fs → (x : InterfaceItemSyn) → IsIn x f.items → is_there table (full_name table f.name.name (item_name x).name) ≡ true

-- a class that is found by name in a module is among the items that the module is judged by
pub class_there : (table : List (List ℕ)) (fs : List InterfaceSyn) (m : ModuleSyn) (D : List DeclaredType) (bs : List Base) (all : Items) (v : Visible) (k : ItemName) (e : Entry) (j : ℕ) → AllFull table fs
    → item_at (all_items table (items_of table fs) m) k ≡ Some e → e.sort ≡ Class j
    → ClassThere (own_items (own_full table (items_of table fs) m) D bs all v [] m.items ++ interface_items (items_of table fs) [] fs) e.full
class_there table fs m D bs all v k e j full h s =
    let items : Items = items_of table fs in
    let own : List Item = own_items (own_full table items m) D bs all v [] m.items in
    let others : List Item = interface_items items [] fs in
    elim (at_both (own_named table items m [] (map head_item m.items)) items k e h) [
      | inl a ↦ class_left own others e.full (own_class_there table items m D bs all v [] m.items k e j a s)
      | inr b ↦
          let r = item_first table fs k.interface k.name e full b in
          class_right own others e.full (interface_there items k.interface k.name j e.full r.0 r.1.0 fs (sym r.2 ∙ s) (ap (λ (o : Option Entry). option_map (λ (x : Entry). x.full) o) b) r.1.2 [] r.1.1 refl)
    ]

-- what a name refers to is found by name
own_or_item : (a b : Option Entry) (e : Entry) → own_or a b ≡ referents.Item e → (a ≡ Some e) ⊎ (b ≡ Some e)
own_or_item (Some x) b e h = inl (cc)
own_or_item None (Some x) e h = inr (cc)
own_or_item None None e h = absurd (cc)

abbrev FoundBy : Items → Entry → Type 0
FoundBy items e = (k : ItemName) × (item_at items k ≡ Some e)

in_found : (items : Items) (i : Option ℕ) (n : ℕ) (e : Entry) → item_in items i n ≡ Some e → FoundBy items e
in_found items None n e h = absurd (none_some e h)
in_found items (Some i) n e h = (record { interface = i; name = n }, h)

bare_found : (items : Items) (v : Visible) (n : ℕ) (e : Entry) (o : Option ℕ) → param_or o (own_or (item_in items v.text n) (item_in items v.implements n)) ≡ referents.Item e → FoundBy items e
bare_found items v n e (Some k) h = absurd (cc)
bare_found items v n e None h = elim (own_or_item (item_in items v.text n) (item_in items v.implements n) e h) [ inl a ↦ in_found items v.text n e a | inr b ↦ in_found items v.implements n e b ]

full_found : (items : Items) (k : ItemName) (e : Entry) (b : Bool) → (if b then own_or (item_at items k) None else referents.Nothing) ≡ referents.Item e → FoundBy items e
full_found items k e true h = elim (own_or_item (item_at items k) None e h) [ inl a ↦ (k, a) | inr n ↦ absurd (none_some e n) ]
full_found items k e false h = absurd (cc)

named_found : (items : Items) (v : Visible) (first : Ident) (second : Option Ident) (e : Entry) → named_meaning items v first second ≡ referents.Item e → FoundBy items e
named_found items v first None e h = bare_found items v first.name e (position (nat_eq first.name) v.params) h
named_found items v first (Some second) e h = full_found items (record { interface = first.name; name = second.name }) e (has v.uses first.name || is_number v.implements first.name) h

-- the class that is meant after `inherits`
with_some : (n : ℕ) (ts : TypeExprs) (o : Option ClassInfo) → is_some o ≡ true → is_some (inherited_with n ts o) ≡ true
with_some n ts None h = absurd (true≢false (sym h))
with_some n ts (Some c) h = refl

whole_there : (C : Context) (full : ℕ) (b : Bool) (o : Option TypeExprs) → ClassThere C.items full → is_some (class_type (whole_meant full b o)) ≡ true → is_some (inherited_at C (class_type (whole_meant full b o))) ≡ true
whole_there C full true None h s = absurd (true≢false (sym s))
whole_there C full true (Some ts) h s = with_some full ts (class_at C.items full) h
whole_there C full false o h s = absurd (true≢false (sym s))

sort_there : (C : Context) (t : Sort) (full n : ℕ) (o : Option TypeExprs) → ((j : ℕ) → t ≡ Class j → ClassThere C.items full) → is_some (class_type (class_sort_meant t full n o)) ≡ true
    → is_some (inherited_at C (class_type (class_sort_meant t full n o))) ≡ true
sort_there C Exception full n o h s = absurd (true≢false (sym s))
sort_there C (Declared k) full n o h s = absurd (true≢false (sym s))
sort_there C (Class k) full n o h s = whole_there C full (nat_eq n k) o (h k refl) s
sort_there C (Routine k) full n o h s = absurd (true≢false (sym s))
sort_there C (Iterator k) full n o h s = absurd (true≢false (sym s))

meant_there : (C : Context) (r : Referent) (n : ℕ) (o : Option TypeExprs) → ((e : Entry) (j : ℕ) → r ≡ referents.Item e → e.sort ≡ Class j → ClassThere C.items e.full) → is_some (class_type (class_meant r n o)) ≡ true
    → is_some (inherited_at C (class_type (class_meant r n o))) ≡ true
meant_there C referents.Nothing n o h s = absurd (true≢false (sym s))
meant_there C (referents.Param k) n o h s = absurd (true≢false (sym s))
meant_there C (referents.Item e) n o h s = sort_there C e.sort e.full n o (λ j t. h e j refl t) s

-- the classes that are found by name are among the items
abbrev pub ClassesThere : Items → List Item → Type 0
ClassesThere items is = (k : ItemName) (e : Entry) (j : ℕ) → item_at items k ≡ Some e → e.sort ≡ Class j → ClassThere is e.full

pub inherited_there : (C : Context) (items : Items) (v : Visible) (n : Option NamedSyn) → ClassesThere items C.items → is_some (inherited_type items v n) ≡ true → is_some (inherited_at C (inherited_type items v n)) ≡ true
inherited_there C items v None h s = absurd (true≢false (sym s))
inherited_there C items v (Some n) h s =
    meant_there C (meaning items v n.item) (count n.args) (resolved_types items v n.args)
    (λ e j m t. let f = named_found items v n.item.first n.item.second e m in h f.0 e j f.1 t) s
