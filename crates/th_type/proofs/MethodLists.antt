-- Ascending lists of signatures.
use Rattle.std.proofs.Common.{◌≡◌, ◌∙◌, ℕ, zero, suc, ◌+◌, ◌<◌, ◌≤◌, Bool, true, false, nat_eq, List, [], ◌∷◌, ◌++◌, length, map, take, drop, get_or, slice_get, Option, Some, None, option_map, refl, ap, sym, subst, inl, inr, arith, if◌then◌else◌, take-append-drop}
use Rattle.std.proofs.lemmas.Bool.Decides.{nat_tests}
use Rattle.std.proofs.lemmas.List.{map-append, take_more, length-map}
use Rattle.th_type.specs.declared.sig.Sig.{Sig}
use Rattle.th_type.specs.Lists.{IsIn, or_else}
use Rattle.th_type.specs.Types.{TypeExpr}
use Rattle.th_type.specs.Signatures.{Signature, sig_of, subst_sig, find_sig}
use Rattle.th_type.specs.declared.typedef.Written.{Written}
use Rattle.th_type.specs.MethodTables.{Rising, FoundAt, GoesAt, Merged, written_sigs}
use Rattle.th_type.proofs.Members.{from_append, in_at, at_in, in_within}

pub get_at : {A B : Type 0} (f : A → B) (xs : List A) (k : ℕ) (d : A) → k < length xs → d ≡ get_or xs k d → slice_get (map f xs) k ≡ Some (f d)
get_at f [] k d h e = absurd (omega (arith, h))
get_at f (x ∷ xs) zero d h e = ap (λ y. Some (f y)) (sym e)
get_at f (x ∷ xs) (suc k) d h e = get_at f xs k d (omega (arith, h)) e

rising_at : (ss : List Signature) (j k : ℕ) (s t : Signature) → Rising ss → j < k → slice_get ss j ≡ Some s → slice_get ss k ≡ Some t → s.method < t.method
rising_at [] j k s t r h e f = cc
rising_at (x ∷ xs) zero zero s t r h e f = absurd (omega (arith, h))
rising_at (x ∷ xs) zero (suc k) s t r h e f = let q : x ≡ s = cc in subst (λ (x : Signature). x.method < t.method) q (r.0 t (at_in t xs k f))
rising_at (x ∷ xs) (suc j) zero s t r h e f = absurd (omega (arith, h))
rising_at (x ∷ xs) (suc j) (suc k) s t r h e f = rising_at xs j k s t r.1 (omega (arith, h)) e f

-- what stands up to the middle is lower where the middle is
pub low_more : (ss : List Signature) (middle m : ℕ) (t : Signature) → Rising ss → slice_get ss middle ≡ Some t → t.method < m → (j : ℕ) (s : Signature) → j < middle + 1 → slice_get ss j ≡ Some s → s.method < m
low_more ss middle m t r e h j s l f = by (nat_eq j middle) refl where
  by : (b : Bool) → nat_eq j middle ≡ b → s.method < m
  by true q = let i : j ≡ middle = grind (arith, nat_tests) in let g : slice_get ss middle ≡ Some s = subst (λ j. slice_get ss j ≡ Some s) i f in let z : t ≡ s = cc in subst (λ (t : Signature). t.method < m) z h
  by false q = let i : j < middle = grind (arith, nat_tests) in let z = rising_at ss j middle s t r i f e in omega (arith, z, h)

-- what stands from the middle on is higher where the middle is
pub high_more : (ss : List Signature) (middle m : ℕ) (t : Signature) → Rising ss → slice_get ss middle ≡ Some t → m < t.method → (j : ℕ) (s : Signature) → middle ≤ j → slice_get ss j ≡ Some s → m < s.method
high_more ss middle m t r e h j s l f = by (nat_eq j middle) refl where
  by : (b : Bool) → nat_eq j middle ≡ b → m < s.method
  by true q = let i : j ≡ middle = grind (arith, nat_tests) in let g : slice_get ss middle ≡ Some s = subst (λ j. slice_get ss j ≡ Some s) i f in let z : t ≡ s = cc in subst (λ (t : Signature). m < t.method) z h
  by false q = let i : middle < j = grind (arith, nat_tests) in let z = rising_at ss middle j t s r i e f in omega (arith, z, h)

in_take : {A : Type 0} (k : ℕ) (xs : List A) (x : A) → IsIn x (take k xs) → (j : ℕ) × (j < k) × (slice_get xs j ≡ Some x)
in_take zero xs x i = absurd i
in_take (suc k) [] x i = absurd i
in_take (suc k) (y ∷ ys) x (inl e) = (zero, omega arith, ap Some (sym e))
in_take (suc k) (y ∷ ys) x (inr i) = let p = in_take k ys x i in (suc p.0, (let q = p.1 in omega (arith, q)), p.2)

in_drop : {A : Type 0} (k : ℕ) (xs : List A) (x : A) → IsIn x (drop k xs) → (j : ℕ) × (k ≤ j) × (slice_get xs j ≡ Some x)
in_drop zero xs x i = let p = in_at x xs i in (p.0, omega arith, p.2)
in_drop (suc k) [] x i = absurd i
in_drop (suc k) (y ∷ ys) x i = let p = in_drop k ys x i in (suc p.0, (let q = p.1 in omega (arith, q)), p.2)

-- where it goes at the end of the search
pub goes_at : (ss : List Signature) (m k : ℕ) → k ≤ length ss → ((j : ℕ) (s : Signature) → j < k → slice_get ss j ≡ Some s → s.method < m) → ((j : ℕ) (s : Signature) → k ≤ j → slice_get ss j ≡ Some s → m < s.method) → GoesAt ss m k
goes_at ss m k h l g = (h, (λ s i. let p = in_take k ss s i in l p.0 s p.1 p.2), (λ s i. let p = in_drop k ss s i in g p.0 s p.1 p.2))

find_append_if : (s : Signature) (xs ys : List Signature) (m : ℕ) (b : Bool) → find_sig (xs ++ ys) m ≡ or_else (find_sig xs m) (find_sig ys m) → (if b then Some s else find_sig (xs ++ ys) m) ≡ or_else (if b then Some s else find_sig xs m) (find_sig ys m)
find_append_if s xs ys m true r = refl
find_append_if s xs ys m false r = r

pub find_append : (xs ys : List Signature) (m : ℕ) → find_sig (xs ++ ys) m ≡ or_else (find_sig xs m) (find_sig ys m)
find_append [] ys m = refl
find_append (x ∷ xs) ys m = find_append_if x xs ys m (nat_eq x.method m) (find_append xs ys m)

find_none : (xs : List Signature) (m : ℕ) → ((s : Signature) → IsIn s xs → s.method ≡ m → ⊥) → find_sig xs m ≡ None
find_none [] m h = refl
find_none (x ∷ xs) m h = by (nat_eq x.method m) refl (find_none xs m (λ s i. h s (inr i))) where
  by : (b : Bool) → nat_eq x.method m ≡ b → find_sig xs m ≡ None → (if b then Some x else find_sig xs m) ≡ None
  by true e r = let q : x.method ≡ m = grind (arith, nat_tests) in absurd (h x (inl refl) q)
  by false e r = r

or_none : {A : Type 0} (o : Option A) → or_else o None ≡ o
or_none None = refl
or_none (Some a) = refl

pub or_assoc : {A : Type 0} (a b c : Option A) → or_else (or_else a b) c ≡ or_else a (or_else b c)
or_assoc None b c = refl
or_assoc (Some x) b c = refl

or_some : {A : Type 0} (a b : Option A) (x : A) → a ≡ Some x → or_else a b ≡ a
or_some None b x e = cc
or_some (Some y) b x e = refl

find_there : (ss : List Signature) (k : ℕ) (s : Signature) → Rising ss → slice_get ss k ≡ Some s → find_sig ss s.method ≡ Some s
find_there [] k s r e = cc
find_there (x ∷ xs) zero s r e = let q : x ≡ s = cc in subst (λ (s : Signature). find_sig (x ∷ xs) s.method ≡ Some s) q (self_if x xs) where
  self_if : (x : Signature) (xs : List Signature) → find_sig (x ∷ xs) x.method ≡ Some x
  self_if x xs = let h : nat_eq x.method x.method ≡ true = grind (arith, nat_tests) in rw h refl
find_there (x ∷ xs) (suc k) s r e =
    let l = r.0 s (at_in s xs k e) in
    let h : nat_eq x.method s.method ≡ false = grind (arith, nat_tests) in
    rw h (find_there xs k s r.1 e)

-- a signature that is found is the method's
pub found_is : (ss : List Signature) (m k : ℕ) → Rising ss → FoundAt ss m k → (s : Signature) × (slice_get ss k ≡ Some s) × (find_sig ss m ≡ Some s)
found_is ss m k r (s, e, h) = (s, e, subst (λ m. find_sig ss m ≡ Some s) h (find_there ss k s r e))

split_is : (ss : List Signature) (k m : ℕ) → find_sig ss m ≡ or_else (find_sig (take k ss) m) (find_sig (drop k ss) m)
split_is ss k m = ap (λ xs. find_sig xs m) (sym (take-append-drop k ss)) ∙ find_append (take k ss) (drop k ss) m

-- a method that would go somewhere is not there
pub goes_is : (ss : List Signature) (m k : ℕ) → GoesAt ss m k → find_sig ss m ≡ None
goes_is ss m k g =
    let a : find_sig (take k ss) m ≡ None = find_none (take k ss) m (λ s i e. let l = g.1 s i in omega (arith, l, e)) in
    let b : find_sig (drop k ss) m ≡ None = find_none (drop k ss) m (λ s i e. let l = g.2 s i in omega (arith, l, e)) in
    split_is ss k m ∙ rw (a, b) refl

-- nothing is added where the method is there
pub merged_found : (ss : List Signature) (s : Signature) (k : ℕ) → Rising ss → FoundAt ss s.method k → Merged ss (s ∷ []) ss
merged_found ss s k r f = record {
  rising = r;
  finds = λ m. by m (nat_eq s.method m) refl;
} where
  by : (m : ℕ) (b : Bool) → nat_eq s.method m ≡ b → find_sig ss m ≡ or_else (find_sig ss m) (if b then Some s else None)
  by m true e = let q : s.method ≡ m = grind (arith, nat_tests) in let p = found_is ss s.method k r f in sym (or_some (find_sig ss m) (Some s) p.0 (subst (λ m. find_sig ss m ≡ Some p.0) q p.2))
  by m false e = sym (or_none (find_sig ss m))

rising_append : (xs ys : List Signature) → Rising xs → Rising ys → ((s t : Signature) → IsIn s xs → IsIn t ys → s.method < t.method) → Rising (xs ++ ys)
rising_append [] ys a b h = b
rising_append (x ∷ xs) ys a b h = ((λ t i. elim (from_append t xs ys i) [ inl j ↦ a.0 t j | inr j ↦ h x t (inl refl) j ]), rising_append xs ys a.1 b (λ s t i j. h s t (inr i) j))

rising_take : (k : ℕ) (ss : List Signature) → Rising ss → Rising (take k ss)
rising_take zero ss r = tt
rising_take (suc k) [] r = tt
rising_take (suc k) (x ∷ xs) r = ((λ t i. let p = in_take k xs t i in r.0 t (at_in t xs p.0 p.2)), rising_take k xs r.1)

rising_drop : (k : ℕ) (ss : List Signature) → Rising ss → Rising (drop k ss)
rising_drop zero ss r = r
rising_drop (suc k) [] r = tt
rising_drop (suc k) (x ∷ xs) r = rising_drop k xs r.1

-- a signature is put where it goes
pub merged_put : (ss zs : List Signature) (s : Signature) (k : ℕ) → Rising ss → GoesAt ss s.method k → zs ≡ take k ss ++ s ∷ drop k ss → Merged ss (s ∷ []) zs
merged_put ss zs s k r g e = subst (λ zs. Merged ss (s ∷ []) zs) (sym e) (record {
  rising = rising_append (take k ss) (s ∷ drop k ss) (rising_take k ss r) (g.2, rising_drop k ss r)
      (λ a b i j. elim j [ inl q ↦ subst (λ (b : Signature). a.method < b.method) (sym q) (g.1 a i) | inr i2 ↦ (let l = g.1 a i in let h = g.2 b i2 in omega (arith, l, h)) ]);
  finds = λ m. find_append (take k ss) (s ∷ drop k ss) m ∙ by m (nat_eq s.method m) refl;
}) where
  by : (m : ℕ) (b : Bool) → nat_eq s.method m ≡ b → or_else (find_sig (take k ss) m) (if b then Some s else find_sig (drop k ss) m) ≡ or_else (find_sig ss m) (if b then Some s else None)
  by m true h =
      let q : s.method ≡ m = grind (arith, nat_tests) in
      let n : find_sig ss m ≡ None = subst (λ m. find_sig ss m ≡ None) q (goes_is ss s.method k g) in
      let a : find_sig (take k ss) m ≡ None = find_none (take k ss) m (λ t i e. let l = g.1 t i in omega (arith, l, e, q)) in
      rw (n, a) refl
  by m false h = sym (split_is ss k m) ∙ sym (or_none (find_sig ss m))

pub merged_none : (xs : List Signature) → Rising xs → Merged xs [] xs
merged_none xs r = record { rising = r; finds = λ m. sym (or_none (find_sig xs m)) }

-- further signatures are added
pub merged_then : (xs ys zs us vs : List Signature) → Merged xs ys zs → Merged zs us vs → Merged xs (ys ++ us) vs
merged_then xs ys zs us vs a b = record {
  rising = b.rising;
  finds = λ m. b.finds m ∙ ap (λ o. or_else o (find_sig us m)) (a.finds m) ∙ or_assoc (find_sig xs m) (find_sig ys m) (find_sig us m) ∙ ap (or_else (find_sig xs m)) (sym (find_append ys us m));
}

find_subst_if : (args : List TypeExpr) (x : Signature) (xs : List Signature) (m : ℕ) (b : Bool) → find_sig (map (subst_sig args) xs) m ≡ option_map (subst_sig args) (find_sig xs m) → (if b then Some (subst_sig args x) else find_sig (map (subst_sig args) xs) m) ≡ option_map (subst_sig args) (if b then Some x else find_sig xs m)
find_subst_if args x xs m true r = refl
find_subst_if args x xs m false r = r

pub find_subst : (args : List TypeExpr) (xs : List Signature) (m : ℕ) → find_sig (map (subst_sig args) xs) m ≡ option_map (subst_sig args) (find_sig xs m)
find_subst args [] m = refl
find_subst args (x ∷ xs) m = find_subst_if args x xs m (nat_eq x.method m) (find_subst args xs m)

map_take : {A B : Type 0} (f : A → B) (k : ℕ) (xs : List A) → map f (take k xs) ≡ take k (map f xs)
map_take f zero xs = refl
map_take f (suc k) [] = refl
map_take f (suc k) (x ∷ xs) = ap (λ ys. f x ∷ ys) (map_take f k xs)

map_drop : {A B : Type 0} (f : A → B) (k : ℕ) (xs : List A) → map f (drop k xs) ≡ drop k (map f xs)
map_drop f zero xs = refl
map_drop f (suc k) [] = refl
map_drop f (suc k) (x ∷ xs) = map_drop f k xs

-- the code's signature is put where it goes
pub merged_insert : (xs ys : List Sig) (s : Sig) (k : ℕ) → Rising (map sig_of xs) → GoesAt (map sig_of xs) s.method k → ys ≡ take k xs ++ s ∷ drop k xs → Merged (map sig_of xs) (sig_of s ∷ []) (map sig_of ys)
merged_insert xs ys s k r g e =
    merged_put (map sig_of xs) (map sig_of ys) (sig_of s) k r g
    (ap (map sig_of) e ∙ map-append sig_of (take k xs) (s ∷ drop k xs) ∙ ap (λ zs. zs ++ sig_of s ∷ map sig_of (drop k xs)) (map_take sig_of k xs) ∙ ap (λ zs. take k (map sig_of xs) ++ sig_of s ∷ zs) (map_drop sig_of k xs))

pub written_more : (ws : List Written) (i : ℕ) (d : Written) (s : Signature) (xs ys zs : List Signature) → i < length ws → d ≡ get_or ws i d → s ≡ sig_of d.sig → Merged xs (written_sigs (take i ws)) ys → Merged ys (s ∷ []) zs → Merged xs (written_sigs (take (i + 1) ws)) zs
written_more ws i d s xs ys zs h e f a b =
    let g : written_sigs (take (i + 1) ws) ≡ written_sigs (take i ws) ++ s ∷ [] =
    ap written_sigs (take_more ws i d h) ∙ map-append (λ w. sig_of w.sig) (take i ws) (get_or ws i d ∷ []) ∙ ap (λ (w : Written). written_sigs (take i ws) ++ sig_of w.sig ∷ []) (sym e) ∙ ap (λ t. written_sigs (take i ws) ++ t ∷ []) (sym f) in
    subst (λ us. Merged xs us zs) (sym g) (merged_then xs (written_sigs (take i ws)) ys (s ∷ []) zs a b)

abbrev inherited : List TypeExpr → List Sig → List Signature
inherited args ss = map (subst_sig args) (map sig_of ss)

pub inherited_more : (args : List TypeExpr) (ss : List Sig) (i : ℕ) (d : Sig) (s : Signature) (xs ys zs : List Signature) → i < length ss → d ≡ get_or ss i d → s ≡ subst_sig args (sig_of d) → Merged xs (map (subst_sig args) (map sig_of (take i ss))) ys → Merged ys (s ∷ []) zs → Merged xs (map (subst_sig args) (map sig_of (take (i + 1) ss))) zs
inherited_more args ss i d s xs ys zs h e f a b =
    let g : inherited args (take (i + 1) ss) ≡ inherited args (take i ss) ++ s ∷ [] =
    ap (inherited args) (take_more ss i d h) ∙ ap (map (subst_sig args)) (map-append sig_of (take i ss) (get_or ss i d ∷ [])) ∙ map-append (subst_sig args) (map sig_of (take i ss)) (sig_of (get_or ss i d) ∷ []) ∙ ap (λ (w : Sig). inherited args (take i ss) ++ subst_sig args (sig_of w) ∷ []) (sym e) ∙ ap (λ t. inherited args (take i ss) ++ t ∷ []) (sym f) in
    subst (λ us. Merged xs us zs) (sym g) (merged_then xs (inherited args (take i ss)) ys (s ∷ []) zs a b)

-- what stands at the found place is the method's signature
pub found_at_is : (xs : List Sig) (m k : ℕ) (d : Sig) → Rising (map sig_of xs) → FoundAt (map sig_of xs) m k → d ≡ get_or xs k d → Some (sig_of d) ≡ find_sig (map sig_of xs) m
found_at_is xs m k d r f e =
    let p = found_is (map sig_of xs) m k r f in
    let w = in_within p.0 (map sig_of xs) k p.1 in
    let l : length (map sig_of xs) ≡ length xs = length-map xs sig_of in
    let g = get_at sig_of xs k d (omega (arith, w, l)) e in
    sym g ∙ p.1 ∙ sym p.2
