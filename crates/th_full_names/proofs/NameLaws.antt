-- Names that are put into the table.
use Rattle.std.proofs.Common.{◌≡◌, ℕ, zero, suc, ◌+◌, ◌<◌, ◌≤◌, Bool, true, false, ◌||◌, List, [], ◌∷◌, ◌++◌, Option, Some, length, get_or, slice_get, map, drop, codes, refl, sym, ◌∙◌, subst, ap, append_assoc, append-nil, eq-eqb, inl, inr}
use Rattle.std.specs.Prelude.{if◌then◌else◌, unwrap_or}
use Rattle.std.specs.List.{flat_map}
use Rattle.std.specs.Str.{bytes_eq}
use Rattle.std.proofs.Math.ListN.{drop_of_length-le}
use Rattle.th_tree.specs.Names.{is_there, with_name}
use Rattle.th_tree.specs.Trees.{InterfaceItemSyn, InterfaceSyn, ModuleSyn}
use Rattle.th_tree.specs.declared.decl.Interface.{Interface}
use Rattle.th_tree.specs.declared.decl.Module.{Module}
use Rattle.th_tree.specs.DeclView.{interface_of, module_of}
use Rattle.th_type.specs.Lists.{IsIn}
use Rattle.th_type.proofs.Members.{in_left, in_map, in_right}
use Rattle.th_hier.specs.Numbering.{Grown, name_bytes}
use Rattle.th_hier.specs.Spots.{item_name}
use Rattle.th_hier.proofs.Failing.{next_list}
use Rattle.th_hier.proofs.Growing.{grown_on, grown_self}
use Rattle.th_module_rules.specs.Own.{head_items}
use Rattle.th_module_rules.specs.Stages.{Numbered}
use Rattle.th_module_rules.specs.Texts.{HasNames, HasOwnNames, HasItemNames}
use Rattle.th_program.specs.declared.trees.Trees.{Trees}
use Rattle.th_program.specs.Programs.{with_texts, program_of}
use Rattle.th_full_names.specs.Numbering.{Adds, full_names, joined, names_in_interface, names_in_interfaces, names_in_module, names_in_modules, with_full_names, with_names}

get_kept : {A : Type 0} (xs ys : List A) (k : ℕ) (x : A) → slice_get xs k ≡ Some x → slice_get (xs ++ ys) k ≡ Some x
get_kept [] ys k x h = absurd (cc)
get_kept (y ∷ xs) ys zero x h = h
get_kept (y ∷ xs) ys (suc k) x h = get_kept xs ys k x h

-- a name of the table is that of any longer one
pub name_on : (table t : List (List ℕ)) (n : ℕ) (x : List ℕ) → slice_get table n ≡ Some x → Grown table t → name_bytes t n ≡ x
name_on table t n x h (more, e) =
    ap (λ (u : List (List ℕ)). name_bytes u n) e ∙ ap (λ (o : Option (List ℕ)). unwrap_or o []) (get_kept table more n x h)

pub joined_on : (table t : List (List ℕ)) (a between b : ℕ) (x y : List ℕ) → slice_get table a ≡ Some x → slice_get table b ≡ Some y → Grown table t
    → (x ++ between ∷ []) ++ y ≡ joined t a between b
joined_on table t a between b x y h k g =
    append_assoc x (between ∷ []) y
    ∙ sym (ap (λ (z : List ℕ). z ++ between ∷ name_bytes t b) (name_on table t a x h g) ∙ ap (λ (z : List ℕ). x ++ between ∷ z) (name_on table t b y k g))

-- the names that are added so far and those that are left are all
abbrev pub Adding : List (List ℕ) → (List (List ℕ) → List (List ℕ)) → (List (List ℕ) → List (List ℕ)) → List (List ℕ) → List (List ℕ) → Type 0
Adding table left all old now = (t : List (List ℕ)) → Grown table t → now ++ left t ≡ old ++ all t

-- what is added of the next of a list
pub adds_next : {A : Type 0} (table : List (List ℕ)) (g : List (List ℕ) → A → List (List ℕ)) (F : List (List ℕ) → List A → List (List ℕ)) (xs : List A) (i : ℕ) (x : A) (old made new : List (List ℕ))
    → ((t : List (List ℕ)) (y : A) (ys : List A) → F t (y ∷ ys) ≡ g t y ++ F t ys) → i < length xs → x ≡ get_or xs i x → Adds table (λ t. g t x) made new
    → Adding table (λ t. F t (drop i xs)) (λ t. F t xs) old made → Adding table (λ t. F t (drop (i + 1) xs)) (λ t. F t xs) old new
adds_next table g F xs i x old made new goes below is here left = λ t w. next_list (g t) (F t) xs i x made new (old ++ F t xs) (goes t) below is (here t w) (left t w)

-- all is added where nothing is left
pub adds_last : {A : Type 0} (table : List (List ℕ)) (F : List (List ℕ) → List A → List (List ℕ)) (xs : List A) (i : ℕ) (old new : List (List ℕ))
    → ((t : List (List ℕ)) → F t [] ≡ []) → length xs ≤ i → Adding table (λ t. F t (drop i xs)) (λ t. F t xs) old new → Adds table (λ t. F t xs) old new
adds_last {A} table F xs i old new none past left = λ t w.
    sym (ap (λ (ys : List A). new ++ F t ys) (drop_of_length-le xs past) ∙ ap (λ (r : List (List ℕ)). new ++ r) (none t) ∙ append-nil new) ∙ left t w

-- what is added one after another
pub adds_both : (table : List (List ℕ)) (f g : List (List ℕ) → List (List ℕ)) (a b c : List (List ℕ)) → Adds table f a b → Adds table g b c → Adds table (λ t. f t ++ g t) a c
adds_both table f g a b c h k = λ t w. k t w ∙ ap (λ (m : List (List ℕ)). m ++ g t) (h t w) ∙ append_assoc a (f t) (g t)

grown_if : (t : List (List ℕ)) (f : List ℕ) (b : Bool) → Grown t (if b then t else t ++ f ∷ [])
grown_if t f true = grown_self t
grown_if t f false = (f ∷ [], refl)

-- a table with a further name has grown
pub with_grown : (t : List (List ℕ)) (f : List ℕ) → Grown t (with_name t f)
with_grown t f = grown_if t f (is_there t f)

-- and so has one with further names
pub names_grown : (t ns : List (List ℕ)) → Grown t (with_names t ns)
names_grown t [] = grown_self t
names_grown t (n ∷ ns) = grown_on t (with_name t n) (with_names (with_name t n) ns) (with_grown t n) (names_grown (with_name t n) ns)

same_bytes : (bs : List ℕ) → bytes_eq bs bs ≡ true
same_bytes [] = refl
same_bytes (b ∷ bs) = rw (eq-eqb b b refl, same_bytes bs) refl

there_more : (ns more : List (List ℕ)) (n : List ℕ) → is_there ns n ≡ true → is_there (ns ++ more) n ≡ true
there_more [] more n e = absurd (cc)
there_more (x ∷ ns) more n e = go (bytes_eq n x) e (λ d. there_more ns more n d) where
  go : (b : Bool) → (b || is_there ns n) ≡ true → (is_there ns n ≡ true → is_there (ns ++ more) n ≡ true) → (b || is_there (ns ++ more) n) ≡ true
  go true d k = refl
  go false d k = k d

there_last : (ns : List (List ℕ)) (n : List ℕ) → is_there (ns ++ n ∷ []) n ≡ true
there_last [] n = rw (same_bytes n) refl
there_last (x ∷ ns) n = go (bytes_eq n x) (there_last ns n) where
  go : (b : Bool) → is_there (ns ++ n ∷ []) n ≡ true → (b || is_there (ns ++ n ∷ []) n) ≡ true
  go true d = refl
  go false d = d

there_if : (t : List (List ℕ)) (n : List ℕ) (b : Bool) → is_there t n ≡ b → is_there (if b then t else t ++ n ∷ []) n ≡ true
there_if t n true e = e
there_if t n false e = there_last t n

name_there : (t : List (List ℕ)) (n : List ℕ) → is_there (with_name t n) n ≡ true
name_there t n = there_if t n (is_there t n) refl

kept_there : (t new : List (List ℕ)) (n : List ℕ) → Grown t new → is_there t n ≡ true → is_there new n ≡ true
kept_there t new n (more, e) h = subst (λ (u : List (List ℕ)). is_there u n ≡ true) (sym e) (there_more t more n h)

-- the table with further names has each of them
pub all_there : (t ns : List (List ℕ)) (n : List ℕ) → IsIn n ns → is_there (with_names t ns) n ≡ true
all_there t [] n m = absurd m
all_there t (x ∷ ns) n (inl e) =
    kept_there (with_name t x) (with_names (with_name t x) ns) n (names_grown (with_name t x) ns)
    (subst (λ (y : List ℕ). is_there (with_name t x) y ≡ true) (sym e) (name_there t x))
all_there t (x ∷ ns) n (inr m) = all_there (with_name t x) ns n m

in_flat : {A B : Type 0} (f : A → List B) (y : B) (x : A) (xs : List A) → IsIn x xs → IsIn y (f x) → IsIn y (flat_map f xs)
in_flat f y x [] h k = absurd h
in_flat {A} {B} f y x (z ∷ xs) (inl e) k = in_left y (f z) (flat_map f xs) (subst (λ (w : A). IsIn y (f w)) e k)
in_flat f y x (z ∷ xs) (inr h) k = in_right y (f z) (flat_map f xs) (in_flat f y x xs h k)

in_texts : {A : Type 0} (ns : List ℕ) (xs : List A) (i : Numbered A) → IsIn i (with_texts ns xs) → IsIn i.tree xs
in_texts [] xs i h = absurd h
in_texts (n ∷ ns) [] i h = absurd h
in_texts {A} (n ∷ ns) (x ∷ xs) i (inl e) = inl (ap (λ (j : Numbered A). j.tree) e)
in_texts (n ∷ ns) (x ∷ xs) i (inr h) = inr (in_texts ns xs i h)

-- a table that has the names of all items
module _ (table : List (List ℕ)) (fs : List InterfaceSyn) (ms : List ModuleSyn) (has : (n : List ℕ) → IsIn n (full_names table fs ms) → is_there table n ≡ true) where
  main_named : is_there table (codes "main") ≡ true
  main_named = has (codes "main") (inl refl)

  interface_named : (f : InterfaceSyn) → IsIn f fs → HasItemNames table f
  interface_named f m = λ i w.
      let full : List ℕ = joined table f.name.name 36 (item_name i).name in
      has full (inr (in_left full (names_in_interfaces table fs) (names_in_modules table ms)
      (in_flat (names_in_interface table) full f fs m (in_map (λ (x : InterfaceItemSyn). joined table f.name.name 36 (item_name x).name) i f.items w))))

  module_named : (m : ModuleSyn) → IsIn m ms → HasOwnNames table m
  module_named m w =
      let behind : (n : List ℕ) → IsIn n (names_in_module table m) → is_there table n ≡ true =
      λ n v. has n (inr (in_right n (names_in_interfaces table fs) (names_in_modules table ms) (in_flat (names_in_module table) n m ms w v))) in (
        behind (name_bytes table m.name.name ++ 47 ∷ []) (inl refl),
        λ i v. behind (joined table m.name.name 47 (item_name i).name)
            (inr (in_map (λ (x : InterfaceItemSyn). joined table m.name.name 47 (item_name x).name) i (head_items m) v)),
      )

-- the program of trees has the names of all items where its table has them
has_names : (t : Trees) → ((n : List ℕ) → IsIn n (full_names t.names (map interface_of t.interfaces.items) (map module_of t.modules.items)) → is_there t.names n ≡ true)
    → HasNames (program_of t)
has_names t h =
    let fs : List InterfaceSyn = map interface_of t.interfaces.items in
    let ms : List ModuleSyn = map module_of t.modules.items in
    record {
      main = main_named t.names fs ms h;
      interfaces = λ i m. interface_named t.names fs ms h i.tree (in_texts t.interface_texts.items fs i m);
      modules = λ m w. module_named t.names fs ms h m.tree (in_texts t.module_texts.items ms m w);
    }

-- the table with the names of all items of the trees has them, where they are those over the table with them
pub named : (t : Trees) (old ns : List (List ℕ)) (fs : List Interface) (ms : List Module) → fs ≡ t.interfaces.items → ms ≡ t.modules.items
    → ((u : List (List ℕ)) → Grown old u → ns ≡ full_names u (map interface_of fs) (map module_of ms)) → t.names ≡ with_names old ns → HasNames (program_of t)
named t old ns fs ms e d spelt put =
    let all : (gs : List Interface) → List Module → List (List ℕ) = λ gs ps. full_names t.names (map interface_of gs) (map module_of ps) in
    let grown : Grown old t.names = subst (λ (u : List (List ℕ)). Grown old u) (sym put) (names_grown old ns) in
    let same : ns ≡ all t.interfaces.items t.modules.items = spelt t.names grown ∙ ap (λ (gs : List Interface). all gs ms) e ∙ ap (λ (ps : List Module). all t.interfaces.items ps) d in
    has_names t (λ n m. subst (λ (u : List (List ℕ)). is_there u n ≡ true) (sym put) (all_there old ns n (subst (λ (xs : List (List ℕ)). IsIn n xs) (sym same) m)))

-- the names that are put into the table are those of all items
pub tabled : (old new ns : List (List ℕ)) (fs gs : List Interface) (ms ps : List Module) → fs ≡ gs → ms ≡ ps
    → ((u : List (List ℕ)) → Grown old u → ns ≡ full_names u (map interface_of fs) (map module_of ms)) → new ≡ with_names old ns
    → new ≡ with_full_names old (map interface_of gs) (map module_of ps)
tabled old new ns fs gs ms ps e d spelt put =
    put ∙ ap (with_names old) (spelt old (grown_self old) ∙ ap (λ (xs : List Interface). full_names old (map interface_of xs) (map module_of ms)) e
    ∙ ap (λ (xs : List Module). full_names old (map interface_of gs) (map module_of xs)) d)
