-- What is noted of names with values.
use Rattle.std.proofs.Common.{◌≡◌, ℕ, Bool, true, false, cond, List, [], ◌∷◌, ◌++◌, Option, Some, None, option_map, refl, sym, ap, ◌∙◌, subst, ◌⊎◌, inl, inr, bytes_eq, nat_eq}
use Rattle.std.specs.Bool.{Decides}
use Rattle.std.specs.HashMap.{HashMap, get_by}
use Rattle.std.proofs.lemmas.Slice.Eq.{bytes_eq-Decides}
use Rattle.std.proofs.lemmas.Bool.Decides.{Decides-eqb}
use denote.Ref.{Bor}
use Rattle.th_type.specs.Lists.{IsIn}
use Rattle.th_units.specs.Units.{or_else, Named}
use Rattle.th_agree.specs.Names.{IsLeastOf, lesser, kept}
use Rattle.th_agree.specs.Noted.{Entry, entry, first_value, Clashes, Noted, clashing, place_seen, text_seen}
use Rattle.th_agree.proofs.LeastNames.{least_alike, least_lesser}

-- members of a list with one more
pub in_snoc : {A : Type 0} → (xs : List A) (x y : A) → IsIn x (xs ++ y ∷ []) → IsIn x xs ⊎ (x ≡ y)
in_snoc [] x y h = elim h [ inl s ↦ inr s | inr n ↦ absurd n ]
in_snoc (z ∷ xs) x y h = elim h [ inl s ↦ inl (inl s) | inr n ↦ elim (in_snoc xs x y n) [ inl i ↦ inl (inr i) | inr s ↦ inr s ] ]

pub in_left : {A : Type 0} → (xs ys : List A) (x : A) → IsIn x xs → IsIn x (xs ++ ys)
in_left [] ys x h = absurd h
in_left (z ∷ xs) ys x h = elim h [ inl s ↦ inl s | inr n ↦ inr (in_left xs ys x n) ]

pub in_right : {A : Type 0} → (xs ys : List A) (x : A) → IsIn x ys → IsIn x (xs ++ ys)
in_right [] ys x h = h
in_right (z ∷ xs) ys x h = inr (in_right xs ys x h)

pub in_parts : {A : Type 0} → (xs ys : List A) (x : A) → IsIn x (xs ++ ys) → IsIn x xs ⊎ IsIn x ys
in_parts [] ys x h = inr h
in_parts (z ∷ xs) ys x h = elim h [ inl s ↦ inl (inl s) | inr n ↦ elim (in_parts xs ys x n) [ inl i ↦ inl (inr i) | inr j ↦ inr j ] ]

first_step : {V : Type 0} → (b c : Bool) (x y : V) (l m : Option V) → l ≡ or_else m (cond c (Some y) None) → cond b (Some x) l ≡ or_else (cond b (Some x) m) (cond c (Some y) None)
first_step true c x y l m h = refl
first_step false c x y l m h = h

first_snoc : {V : Type 0} → (es : List (Entry V)) (e : Entry V) (q : List ℕ) → first_value (es ++ e ∷ []) q ≡ or_else (first_value es q) (cond (bytes_eq e.name q) (Some e.value) None)
first_snoc [] e q = refl
first_snoc (d ∷ es) e q = first_step (bytes_eq d.name q) (bytes_eq e.name q) d.value e.value (first_value (es ++ e ∷ []) q) (first_value es q) (first_snoc es e q)

is_step : {V : Type 0} → (b : Bool) (e : Entry V) (es : List (Entry V)) (q : List ℕ) (v : V) (l : Option V) → bytes_eq e.name q ≡ b → (l ≡ Some v → IsIn (entry q v) es)
    → cond b (Some e.value) l ≡ Some v → IsIn (entry q v) (e ∷ es)
is_step true e es q v l t ih h =
    let n : e.name ≡ q = (bytes_eq-Decides e.name q).0 t in
    let k : Some e.value ≡ Some v = h in
    let w : e.value ≡ v = cc in
    inl (ap (λ x. entry x v) (sym n) ∙ ap (λ x. entry e.name x) (sym w))
is_step false e es q v l t ih h = inr (ih h)

-- the value of a name is one of its values
pub first_is : {V : Type 0} → (es : List (Entry V)) (q : List ℕ) (v : V) → first_value es q ≡ Some v → IsIn (entry q v) es
first_is [] q v h = cc
first_is (e ∷ es) q v h = is_step (bytes_eq e.name q) e es q v (first_value es q) refl (first_is es q v) h

never_step : {V : Type 0} → (b : Bool) (e : Entry V) (es : List (Entry V)) (q : List ℕ) (v : V) (l : Option V) → bytes_eq e.name q ≡ b → (l ≡ None → IsIn (entry q v) es → ⊥)
    → cond b (Some e.value) l ≡ None → IsIn (entry q v) (e ∷ es) → ⊥
never_step true e es q v l t ih h i = let k : Some e.value ≡ None = h in cc
never_step false e es q v l t ih h i =
    elim i [ inl s ↦ (let y : bytes_eq e.name q ≡ true = (bytes_eq-Decides e.name q).1 (ap (λ x. x.name) (sym s)) in let d : true ≡ false = sym y ∙ t in cc) | inr n ↦ ih h n ]

-- a name without a value isn't there
pub first_never : {V : Type 0} → (es : List (Entry V)) (q : List ℕ) (v : V) → first_value es q ≡ None → IsIn (entry q v) es → ⊥
first_never [] q v h i = i
first_never (e ∷ es) q v h i = never_step (bytes_eq e.name q) e es q v (first_value es q) refl (first_never es q v) h i

more_clashes : {V : Type 0} → (es : List (Entry V)) (e : Entry V) (q : List ℕ) → Clashes es q → Clashes (es ++ e ∷ []) q
more_clashes es e q c = record { one = c.one; other = c.other; one_in = in_left es (e ∷ []) (entry q c.one) c.one_in; other_in = in_left es (e ∷ []) (entry q c.other) c.other_in; differ = c.differ }

was_in : {V : Type 0} → (es : List (Entry V)) (e d : Entry V) → IsIn e es → IsIn d (es ++ e ∷ []) → IsIn d es
was_in es e d i j = elim (in_snoc es d e j) [ inl k ↦ k | inr s ↦ subst (λ x. IsIn x es) (sym s) i ]

clash_same : {V : Type 0} → (es : List (Entry V)) (e : Entry V) (q : List ℕ) → IsIn e es → Clashes (es ++ e ∷ []) q → Clashes es q
clash_same es e q i c = record { one = c.one; other = c.other; one_in = was_in es e (entry q c.one) i c.one_in; other_in = was_in es e (entry q c.other) i c.other_in; differ = c.differ }

differs_pair : {V : Type 0} → (es : List (Entry V)) (e : Entry V) (q : List ℕ) (x y : V) → (IsIn (entry q x) es ⊎ (entry q x ≡ e)) → (IsIn (entry q y) es ⊎ (entry q y ≡ e)) → ¬ (x ≡ y)
    → Clashes es q ⊎ (q ≡ e.name)
differs_pair es e q x y (inl i) (inl j) d = inl (record { one = x; other = y; one_in = i; other_in = j; differ = d })
differs_pair es e q x y (inl i) (inr t) d = inr (ap (λ z. z.name) t)
differs_pair es e q x y (inr s) j d = inr (ap (λ z. z.name) s)

clash_differs : {V : Type 0} → (es : List (Entry V)) (e : Entry V) (q : List ℕ) → Clashes (es ++ e ∷ []) q → Clashes es q ⊎ (q ≡ e.name)
clash_differs es e q c = differs_pair es e q c.one c.other (in_snoc es (entry q c.one) e c.one_in) (in_snoc es (entry q c.other) e c.other_in) c.differ

new_pair : {V : Type 0} → (es : List (Entry V)) (n : List ℕ) (v : V) (q : List ℕ) (x y : V) → first_value es n ≡ None
    → (IsIn (entry q x) es ⊎ (entry q x ≡ entry n v)) → (IsIn (entry q y) es ⊎ (entry q y ≡ entry n v)) → ¬ (x ≡ y) → Clashes es q
new_pair es n v q x y h (inl i) (inl j) d = record { one = x; other = y; one_in = i; other_in = j; differ = d }
new_pair es n v q x y h (inl i) (inr t) d = absurd (first_never es n x h (subst (λ k. IsIn (entry k x) es) (ap (λ z. z.name) t) i))
new_pair es n v q x y h (inr s) (inl j) d = absurd (first_never es n y h (subst (λ k. IsIn (entry k y) es) (ap (λ z. z.name) s) j))
new_pair es n v q x y h (inr s) (inr t) d = absurd (d (ap (λ z. z.value) s ∙ sym (ap (λ z. z.value) t)))

clash_new : {V : Type 0} → (es : List (Entry V)) (n : List ℕ) (v : V) (q : List ℕ) → first_value es n ≡ None → Clashes (es ++ entry n v ∷ []) q → Clashes es q
clash_new es n v q h c = new_pair es n v q c.one c.other h (in_snoc es (entry q c.one) (entry n v) c.one_in) (in_snoc es (entry q c.other) (entry n v) c.other_in) c.differ

clash_back : {V : Type 0} → (es : List (Entry V)) (n : List ℕ) (v w : V) (q : List ℕ) → IsIn (entry n w) es → ¬ (w ≡ v) → (Clashes es q ⊎ (q ≡ n)) → Clashes (es ++ entry n v ∷ []) q
clash_back es n v w q i d (inl c) = more_clashes es (entry n v) q c
clash_back es n v w q i d (inr s) = subst (λ x. Clashes (es ++ entry n v ∷ []) x) (sym s) (record {
  one = w;
  other = v;
  one_in = in_left es (entry n v ∷ []) (entry n w) i;
  other_in = in_right es (entry n v ∷ []) (entry n v) (inl refl);
  differ = d;
})

least_some : {V : Type 0} → (b : Bool) (es : List (Entry V)) (n : List ℕ) (v w : V) (o : Option (List ℕ)) → Decides b (w ≡ v) → IsIn (entry n w) es → IsLeastOf (Clashes es) o
    → IsLeastOf (Clashes (es ++ entry n v ∷ [])) (cond b o (lesser o n))
least_some true es n v w o dec i h =
    let j : IsIn (entry n v) es = subst (λ x. IsIn (entry n x) es) (dec.0 refl) i in
    least_alike (Clashes es) (Clashes (es ++ entry n v ∷ [])) o (λ q c. more_clashes es (entry n v) q c) (λ q c. clash_same es (entry n v) q j c) h
least_some false es n v w o dec i h =
    let d : ¬ (w ≡ v) = λ s. (let f : false ≡ true = dec.1 s in cc) in
    least_alike (λ q. Clashes es q ⊎ (q ≡ n)) (Clashes (es ++ entry n v ∷ [])) (lesser o n) (λ q c. clash_back es n v w q i d c) (λ q c. clash_differs es (entry n v) q c)
    (least_lesser (Clashes es) o n h)

least_more : {V : Type 0} → (eq : V → V → Bool) (dec : (a b : V) → Decides (eq a b) (a ≡ b)) (es : List (Entry V)) (n : List ℕ) (v : V) (f : Option V) (o : Option (List ℕ))
    → first_value es n ≡ f → IsLeastOf (Clashes es) o → IsLeastOf (Clashes (es ++ entry n v ∷ [])) (clashing eq f v o n)
least_more eq dec es n v None o e h = least_alike (Clashes es) (Clashes (es ++ entry n v ∷ [])) o (λ q c. more_clashes es (entry n v) q c) (λ q c. clash_new es n v q e c) h
least_more eq dec es n v (Some w) o e h = least_some (eq w v) es n v w o (dec w v) (first_is es n w e) h

seen_step : {V X : Type 0} → (seen : X → V) (b : Bool) (x : X) (o : Option X) → option_map seen (or_else o (cond b (Some x) None)) ≡ or_else (option_map seen o) (cond b (Some (seen x)) None)
seen_step seen true x None = refl
seen_step seen false x None = refl
seen_step seen b x (Some y) = refl

-- a name with a value is noted
pub noted_more : {V X S : Type 0} → (seen : X → V) (eq : V → V → Bool) (dec : (a b : V) → Decides (eq a b) (a ≡ b)) (es : List (Entry V)) (n : List ℕ) (x : X)
    (old new : HashMap (Bor (List ℕ)) X S) (f : Option X) (o r : Option (List ℕ)) → f ≡ get_by (λ k. bytes_eq n k.now) old → Named n x old new → r ≡ clashing eq (option_map seen f) (seen x) o n
    → Noted seen es old o → Noted seen (es ++ entry n (seen x) ∷ []) new r
noted_more seen eq dec es n x old new f o r found named is h = record {
  first = λ q.
      ap (option_map seen) (named.names q)
      ∙ seen_step seen (bytes_eq n q) x (get_by (λ k. bytes_eq q k.now) old)
      ∙ ap (λ l. or_else l (cond (bytes_eq n q) (Some (seen x)) None)) (h.first q)
      ∙ sym (first_snoc es (entry n (seen x)) q);
  least = subst (IsLeastOf (Clashes (es ++ entry n (seen x) ∷ []))) (sym is)
      (least_more eq dec es n (seen x) (option_map seen f) o (sym (ap (option_map seen) found ∙ h.first n)) h.least);
}

nat_decides : (a b : ℕ) → Decides (nat_eq a b) (a ≡ b)
nat_decides a b = Decides-eqb a b

seen_place : (f : Option ℕ) → option_map place_seen f ≡ f
seen_place None = refl
seen_place (Some k) = refl

-- a name with a place is noted
pub place_more : {S : Type 0} → (es : List (Entry ℕ)) (n : List ℕ) (x : ℕ) (old new : HashMap (Bor (List ℕ)) ℕ S) (f : Option ℕ) (o r : Option (List ℕ)) → f ≡ get_by (λ k. bytes_eq n k.now) old
    → Named n x old new → r ≡ clashing nat_eq f x o n → Noted place_seen es old o → Noted place_seen (es ++ entry n x ∷ []) new r
place_more es n x old new f o r found named is h =
    noted_more place_seen nat_eq nat_decides es n x old new f o r found named (is ∙ ap (λ g. clashing nat_eq g x o n) (sym (seen_place f))) h

-- a name with a text is noted
pub text_more : {S : Type 0} → (es : List (Entry (List ℕ))) (n : List ℕ) (x : Bor (List ℕ)) (old new : HashMap (Bor (List ℕ)) (Bor (List ℕ)) S) (f : Option (Bor (List ℕ))) (o r : Option (List ℕ))
    → f ≡ get_by (λ k. bytes_eq n k.now) old → Named n x old new → r ≡ clashing bytes_eq (kept f) x.now o n → Noted text_seen es old o → Noted text_seen (es ++ entry n x.now ∷ []) new r
text_more es n x old new f o r found named is h = noted_more text_seen bytes_eq bytes_eq-Decides es n x old new f o r found named is h
