-- The numbers of full names.
use Rattle.std.proofs.Common.{◌≡◌, ℕ, zero, suc, ◌<◌, Bool, true, false, ◌||◌, List, [], ◌∷◌, ◌++◌, length, slice_get, Option, Some, is_some, refl, sym, ap, ◌∙◌, inl, inr, if◌then◌else◌, subst, arith}
use Rattle.std.specs.Prelude.{unwrap_or}
use Rattle.th_tree.specs.Names.{is_there, place_of, with_name}
use Rattle.th_tree.proofs.Numbers.{found_there, absent_last, last_there}
use Rattle.th_tree.specs.Trees.{InterfaceItemSyn, InterfaceSyn}
use Rattle.th_type.proofs.Members.{from_append}
use Rattle.th_hier.specs.declared.item.ItemName.{ItemName}
use Rattle.th_hier.specs.declared.item.Entry.{Entry}
use Rattle.th_hier.specs.Naming.{Items, has, with_number, item_at}
use Rattle.th_hier.specs.Spots.{item_name}
use Rattle.th_hier.specs.Numbering.{name_bytes, full_name, Grown, full_numbers, Numbering, numbering, add_item, add_items, add_interface, add_interfaces, numbered_items, item_sort, AllNamed}
use Rattle.th_hier.proofs.Growing.{grown_self, grown_on}

there_if : (t : List (List ℕ)) (f : List ℕ) (b : Bool) → is_there t f ≡ b → slice_get (if b then t else t ++ f ∷ []) (place_of t f) ≡ Some f
there_if t f true e = found_there t f e
there_if t f false e = rw (absent_last t f e) (last_there t f)

-- a name that the table has now has its number
named_there : (t : List (List ℕ)) (f : List ℕ) → slice_get (with_name t f) (place_of t f) ≡ Some f
named_there t f = there_if t f (is_there t f) refl

get_grown : {A : Type 0} (xs ys : List A) (k : ℕ) (x : A) → slice_get xs k ≡ Some x → slice_get (xs ++ ys) k ≡ Some x
get_grown [] ys k x h = absurd (cc)
get_grown (y ∷ xs) ys zero x h = h
get_grown (y ∷ xs) ys (suc k) x h = get_grown xs ys k x h

get_same : {A : Type 0} (xs ys : List A) (k : ℕ) → k < length xs → slice_get (xs ++ ys) k ≡ slice_get xs k
get_same [] ys k h = absurd (omega arith)
get_same (y ∷ xs) ys zero h = refl
get_same (y ∷ xs) ys (suc k) h = get_same xs ys k (omega arith)

kept_if : (t : List (List ℕ)) (f : List ℕ) (k : ℕ) (x : List ℕ) (b : Bool) → slice_get t k ≡ Some x → slice_get (if b then t else t ++ f ∷ []) k ≡ Some x
kept_if t f k x true h = h
kept_if t f k x false h = get_grown t (f ∷ []) k x h

grown_if : (t : List (List ℕ)) (f : List ℕ) (b : Bool) → Grown t (if b then t else t ++ f ∷ [])
grown_if t f true = grown_self t
grown_if t f false = (f ∷ [], refl)

with_grown : (t : List (List ℕ)) (f : List ℕ) → Grown t (with_name t f)
with_grown t f = grown_if t f (is_there t f)

bytes_same : (old t : List (List ℕ)) (k : ℕ) → Grown old t → k < length old → name_bytes t k ≡ name_bytes old k
bytes_same old t k (more, e) h = ap (λ (x : List (List ℕ)). unwrap_or (slice_get x k) []) e ∙ ap (λ (o : Option (List ℕ)). unwrap_or o []) (get_same old more k h)

full_same : (old t : List (List ℕ)) (i n : ℕ) → Grown old t → i < length old → n < length old → full_name t i n ≡ full_name old i n
full_same old t i n g hi hn =
    ap (λ (x : List ℕ). x ++ 36 ∷ name_bytes t n) (bytes_same old t i g hi) ∙ ap (λ (x : List ℕ). name_bytes old i ++ 36 ∷ x) (bytes_same old t n g hn)

-- the table has grown, and the items are named by it
pub record NamedSoFar (old : List (List ℕ)) (s : Numbering) : Type 0 where
  pub grown : Grown old s.table
  pub named : AllNamed old s.table s.items

push_named : (old new : List (List ℕ)) (items : Items) (x : ItemName × Entry) (b : Bool) → AllNamed old new items
    → (x.0.interface < length old → x.0.name < length old → slice_get new x.1.full ≡ Some (full_name old x.0.interface x.0.name))
    → AllNamed old new (if b then items else items ++ x ∷ [])
push_named old new items x true a h = a
push_named old new items x false a h = λ y m. elim (from_append y items (x ∷ []) m) [
  | inl p ↦ a y p
  | inr q ↦ elim q [
    | inl s ↦ subst (λ (z : ItemName × Entry). z.0.interface < length old → z.0.name < length old → slice_get new z.1.full ≡ Some (full_name old z.0.interface z.0.name)) (sym s) h
    | inr n ↦ absurd n
  ]
]

item_named : (old : List (List ℕ)) (s : Numbering) (i : ℕ) (x : InterfaceItemSyn) → NamedSoFar old s → NamedSoFar old (add_item s i x)
item_named old s i x p =
    let n = (item_name x).name in
    let full = full_name s.table i n in
    let e : Entry = record { full = place_of s.table full; sort = item_sort x } in
    let key : ItemName = record { interface = i; name = n } in
    record {
      grown = grown_on old s.table (with_name s.table full) p.grown (with_grown s.table full);
      named = push_named old (with_name s.table full) s.items (key, e) (is_some (item_at s.items key) || has (full_numbers s.items) e.full)
          (λ y m hi hn. kept_if s.table full y.1.full (full_name old y.0.interface y.0.name) (is_there s.table full) (p.named y m hi hn))
          (λ hi hn. named_there s.table full ∙ ap (λ (f : List ℕ). Some f) (full_same old s.table i n p.grown hi hn));
    }

items_named : (old : List (List ℕ)) (s : Numbering) (i : ℕ) (xs : List InterfaceItemSyn) → NamedSoFar old s → NamedSoFar old (add_items s i xs)
items_named old s i [] p = p
items_named old s i (x ∷ xs) p = items_named old (add_item s i x) i xs (item_named old s i x p)

one_named : (old : List (List ℕ)) (s : Numbering) (f : InterfaceSyn) (b : Bool) → NamedSoFar old s → NamedSoFar old (if b then s else add_items s f.name.name f.items)
one_named old s f true p = p
one_named old s f false p = items_named old s f.name.name f.items p

all_named : (old : List (List ℕ)) (seen : List ℕ) (s : Numbering) (fs : List InterfaceSyn) → NamedSoFar old s → NamedSoFar old (add_interfaces seen s fs)
all_named old seen s [] p = p
all_named old seen s (f ∷ fs) p = all_named old (with_number seen f.name.name) (add_interface seen s f) fs (one_named old s f (has seen f.name.name) p)

-- the items of interfaces are named by the table with their full names
pub numbered_named : (table : List (List ℕ)) (fs : List InterfaceSyn) → AllNamed table (numbered_items table fs).table (numbered_items table fs).items
numbered_named table fs = (all_named table [] (numbering table []) fs (record { grown = grown_self table; named = λ x m. absurd m })).named
