-- Numbered names.
use Rattle.std.proofs.Common.{◌≡◌, ℕ, zero, suc, ◌+◌, ◌≤◌, ◌<◌, Bool, true, false, not, if◌then◌else◌, ◌||◌, nat_lt, List, [], ◌∷◌, ◌++◌, length, slice_get, position, Some, None, refl, sym, ◌∙◌, ap, subst, arith}
use Rattle.std.proofs.lemmas.Bool.{ltb-true, ltb-false}
use Rattle.std.specs.List.{list_any, position_or_len}
use Rattle.std.specs.Str.{bytes_eq}
use Rattle.std.proofs.lemmas.Slice.Eq.{bytes_eq-Decides}
use Rattle.std.specs.Global.{Vec}
use Rattle.th_tree.specs.Names.{all_bytes, is_there, place_of, with_name}

-- the vector holds the name
abbrev pub holds : List ℕ → Vec ℕ → Bool
holds name v = bytes_eq name v.items

place_if : (name : List ℕ) (v : Bool) (m n : ℕ) → m ≡ n → (if v then 0 else 1 + m) ≡ (if not v then 1 + n else 0)
place_if name true m n e = refl
place_if name false m n e = ap (λ x. 1 + x) e

-- std's count of those before the first is the place
pub place_is : (name : List ℕ) (ks : List (Vec ℕ)) → place_of (all_bytes ks) name ≡ position_or_len (holds name) ks
place_is name [] = refl
place_is name (k ∷ ks) = place_if name (holds name k) _ _ (place_is name ks)

pub all_length : (ks : List (Vec ℕ)) → length (all_bytes ks) ≡ length ks
all_length [] = refl
all_length (k ∷ ks) = ap suc (all_length ks)

pub all_append : (ks : List (Vec ℕ)) (k : Vec ℕ) → all_bytes (ks ++ k ∷ []) ≡ all_bytes ks ++ k.items ∷ []
all_append [] k = refl
all_append (v ∷ ks) k = ap (λ x. v.items ∷ x) (all_append ks k)

there_if : (v w : Bool) (n l : ℕ) → (w ≡ true → n < l) → (v || w) ≡ true → (if v then 0 else 1 + n) < suc l
there_if true w n l h e = omega arith
there_if false w n l h e = let i : n < l = h e in omega arith

-- a name that is there has its place among the names
pub there_within : (names : List (List ℕ)) (name : List ℕ) → is_there names name ≡ true → place_of names name < length names
there_within [] name e = absurd (cc)
there_within (n ∷ ns) name e = there_if (bytes_eq name n) (is_there ns name) (place_of ns name) (length ns) (there_within ns name) e

absent_if : (v w : Bool) (n l : ℕ) → (w ≡ false → n ≡ l) → (v || w) ≡ false → (if v then 0 else 1 + n) ≡ suc l
absent_if true w n l h e = absurd (cc)
absent_if false w n l h e = let i : n ≡ l = h e in omega arith

pub absent_last : (names : List (List ℕ)) (name : List ℕ) → is_there names name ≡ false → place_of names name ≡ length names
absent_last [] name e = refl
absent_last (n ∷ ns) name e = absent_if (bytes_eq name n) (is_there ns name) (place_of ns name) (length ns) (absent_last ns name) e

-- the name stands at its place
found_if : (name n : List ℕ) (ns : List (List ℕ)) (p : ℕ) (v w : Bool) → bytes_eq name n ≡ v → (w ≡ true → slice_get ns p ≡ Some name) → (v || w) ≡ true → slice_get (n ∷ ns) (if v then 0 else 1 + p) ≡ Some name
found_if name n ns p true w e h i = ap (λ x. Some x) (sym ((bytes_eq-Decides name n).0 e))
found_if name n ns p false w e h i = let o : 1 + p ≡ suc p = omega arith in rw o (h i)

pub found_there : (names : List (List ℕ)) (name : List ℕ) → is_there names name ≡ true → slice_get names (place_of names name) ≡ Some name
found_there [] name e = absurd (cc)
found_there (n ∷ ns) name e = found_if name n ns (place_of ns name) (bytes_eq name n) (is_there ns name) refl (found_there ns name) e

pub last_there : (names : List (List ℕ)) (name : List ℕ) → slice_get (names ++ name ∷ []) (length names) ≡ Some name
last_there [] name = refl
last_there (n ∷ ns) name = last_there ns name

-- what the table says after a name was looked up
pub record Numbered (old new : List (List ℕ)) (name : List ℕ) (n : ℕ) : Type 0 where
  pub number : n ≡ place_of old name
  pub names : new ≡ with_name old name
  pub there : slice_get new n ≡ Some name

pub numbered_there : (names : List (List ℕ)) (name : List ℕ) → is_there names name ≡ true → Numbered names names name (place_of names name)
numbered_there names name e = record { number = refl; names = rw e refl; there = found_there names name e }

pub numbered_new : (names : List (List ℕ)) (name : List ℕ) → is_there names name ≡ false → Numbered names (names ++ name ∷ []) name (length names)
numbered_new names name e = record { number = sym (absent_last names name e); names = rw e refl; there = last_there names name }

-- std's look-up by the name
found_by : (n l i : ℕ) (v : Bool) → nat_lt n l ≡ v → (if v then Some n else None) ≡ Some i → (n < l) × (n ≡ i)
found_by n l i true e h = (ltb-true n l e, cc)
found_by n l i false e h = absurd (cc)

not_found_by : (n l : ℕ) (v : Bool) → nat_lt n l ≡ v → (if v then Some n else None) ≡ None → l ≤ n
not_found_by n l true e h = absurd (cc)
not_found_by n l false e h = ltb-false n l e

decide : (names : List (List ℕ)) (name : List ℕ) (v : Bool) → is_there names name ≡ v → place_of names name < length names → v ≡ true
decide names name true e h = refl
decide names name false e h = let i : place_of names name ≡ length names = absent_last names name e in absurd (omega arith)

decide_not : (names : List (List ℕ)) (name : List ℕ) (v : Bool) → is_there names name ≡ v → length names ≤ place_of names name → v ≡ false
decide_not names name true e h = let i : place_of names name < length names = there_within names name e in absurd (omega arith)
decide_not names name false e h = refl

pub looked_up : (name : List ℕ) (ks : List (Vec ℕ)) (i : ℕ) → position (holds name) ks ≡ Some i → (is_there (all_bytes ks) name ≡ true) × (i ≡ place_of (all_bytes ks) name)
looked_up name ks i e =
    let f = found_by (position_or_len (holds name) ks) (length ks) i _ refl e in
    let p : place_of (all_bytes ks) name ≡ position_or_len (holds name) ks = place_is name ks in
    let l : length (all_bytes ks) ≡ length ks = all_length ks in
    let x = f.0 in
    let z : place_of (all_bytes ks) name < length (all_bytes ks) = omega arith in
    (decide (all_bytes ks) name (is_there (all_bytes ks) name) refl z, sym f.1 ∙ sym p)

pub not_looked_up : (name : List ℕ) (ks : List (Vec ℕ)) → position (holds name) ks ≡ None → is_there (all_bytes ks) name ≡ false
not_looked_up name ks e =
    let x : length ks ≤ position_or_len (holds name) ks = not_found_by (position_or_len (holds name) ks) (length ks) _ refl e in
    let p : place_of (all_bytes ks) name ≡ position_or_len (holds name) ks = place_is name ks in
    let l : length (all_bytes ks) ≡ length ks = all_length ks in
    let z : length (all_bytes ks) ≤ place_of (all_bytes ks) name = omega arith in
    decide_not (all_bytes ks) name (is_there (all_bytes ks) name) refl z

-- what a look-up that finds the name gives
pub found : (name : List ℕ) (ks : List (Vec ℕ)) (i : ℕ) → Some i ≡ position (holds name) ks → Numbered (all_bytes ks) (all_bytes ks) name i
found name ks i e =
    let l = looked_up name ks i (sym e) in
    subst (λ n. Numbered (all_bytes ks) (all_bytes ks) name n) (sym l.1) (numbered_there (all_bytes ks) name l.0)

absent_vec : (k : Vec ℕ) (ks : List (Vec ℕ)) → list_any (λ v. bytes_eq k.items v.items) ks ≡ is_there (all_bytes ks) k.items
absent_vec k [] = refl
absent_vec k (v ∷ ks) = ap (λ w. bytes_eq k.items v.items || w) (absent_vec k ks)

-- what an insertion after a look-up that finds nothing gives
pub appended : (name : List ℕ) (ks new : List (Vec ℕ)) (k : Vec ℕ) → None ≡ position (holds name) ks → k.items ≡ name
    → new ≡ (if list_any (λ v. bytes_eq k.items v.items) ks then ks else ks ++ k ∷ []) → Numbered (all_bytes ks) (all_bytes new) name (length ks)
appended name ks new k e i n =
    let a : is_there (all_bytes ks) name ≡ false = not_looked_up name ks (sym e) in
    let b : is_there (all_bytes ks) k.items ≡ false = subst (λ x. is_there (all_bytes ks) x ≡ false) (sym i) a in
    let c : list_any (λ v. bytes_eq k.items v.items) ks ≡ false = absent_vec k ks ∙ b in
    let d : new ≡ ks ++ k ∷ [] = n ∙ ap (λ v. if v then ks else ks ++ k ∷ []) c in
    let f : all_bytes new ≡ all_bytes ks ++ name ∷ [] = ap all_bytes d ∙ all_append ks k ∙ ap (λ x. all_bytes ks ++ x ∷ []) i in
    subst (λ q. Numbered (all_bytes ks) q name (length ks)) (sym f)
    (subst (λ q. Numbered (all_bytes ks) (all_bytes ks ++ name ∷ []) name q) (all_length ks) (numbered_new (all_bytes ks) name a))

-- the names by number
pub get_bytes : (ks : List (Vec ℕ)) (i : ℕ) (v : Vec ℕ) → slice_get ks i ≡ Some v → slice_get (all_bytes ks) i ≡ Some (v.items)
get_bytes [] i v e = absurd (cc)
get_bytes (k ∷ ks) zero v e = let x : k ≡ v = cc in ap (λ (q : Vec ℕ). Some (q.items)) x
get_bytes (k ∷ ks) (suc i) v e = get_bytes ks i v e

pub get_none : (ks : List (Vec ℕ)) (i : ℕ) → None ≡ slice_get ks i → length ks ≤ i
get_none [] i e = omega arith
get_none (k ∷ ks) zero e = absurd (cc)
get_none (k ∷ ks) (suc i) e = let l : length ks ≤ i = get_none ks i e in omega arith
