-- What is kept of names is the least of them.
use Rattle.std.proofs.Common.{◌≡◌, ℕ, Bool, true, false, List, [], ◌∷◌, ◌++◌, Option, Some, None, refl, sym, ap, ◌∙◌, subst, ◌⊎◌, inl, inr, cond, Ordering}
use Rattle.std.specs.declared.cmp.Ordering.TheVariants.{Less, Equal, Greater}
use Rattle.std.specs.Ordering.{is_lt, nat_cmp, ordering_reverse}
use Rattle.std.specs.Cmp.Lexicographic.{slice_cmp}
use Rattle.std.proofs.lemmas.Cmp.{nat_list_cmp_total, tied_itself}
use Rattle.th_type.specs.Lists.{IsIn}
use Rattle.th_agree.specs.Names.{stands_before, IsLeastOf, lesser, lesser_of, least_of}

less : (o : Ordering) → is_lt o ≡ true → o ≡ Less
less Less h = refl
less Equal h = cc
less Greater h = cc

before_trans : (a b c : List ℕ) → stands_before a b ≡ true → stands_before b c ≡ true → stands_before a c ≡ true
before_trans a b c h k = ap is_lt (nat_list_cmp_total.trans a b c (less (slice_cmp nat_cmp a b) h) (less (slice_cmp nat_cmp b c) k))

before_itself : (a : List ℕ) → stands_before a a ≡ false
before_itself a = ap is_lt (tied_itself nat_list_cmp_total a)

not_so : (b : Bool) → (b ≡ true → ⊥) → b ≡ false
not_so true h = absurd (h refl)
not_so false h = refl

-- what isn't before a name isn't before a lesser one
not_before : (q k n : List ℕ) → stands_before n k ≡ true → stands_before q k ≡ false → stands_before q n ≡ false
not_before q k n h f = not_so (stands_before q n) (λ t. let e : stands_before q k ≡ true = before_trans q n k t h in let d : true ≡ false = sym e ∙ f in cc)

-- nothing else is found where the collections are alike
pub least_alike : (P Q : List ℕ → Type 0) (o : Option (List ℕ)) → ((q : List ℕ) → P q → Q q) → ((q : List ℕ) → Q q → P q) → IsLeastOf P o → IsLeastOf Q o
least_alike P Q None forth back h = λ q i. h q (back q i)
least_alike P Q (Some n) forth back h = (forth n h.0, λ q i. h.1 q (back q i))

lesser_step : (P : List ℕ → Type 0) (k n : List ℕ) (b : Bool) → stands_before n k ≡ b → IsLeastOf P (Some k) → IsLeastOf (λ q. P q ⊎ (q ≡ n)) (cond b (Some n) (Some k))
lesser_step P k n true e h = (inr refl, λ q i. elim i [ inl p ↦ not_before q k n e (h.1 q p) | inr s ↦ subst (λ x. stands_before x n ≡ false) (sym s) (before_itself n) ])
lesser_step P k n false e h = (inl h.0, λ q i. elim i [ inl p ↦ h.1 q p | inr s ↦ subst (λ x. stands_before x k ≡ false) (sym s) e ])

-- the name that is kept, with a further one
pub least_lesser : (P : List ℕ → Type 0) (o : Option (List ℕ)) (n : List ℕ) → IsLeastOf P o → IsLeastOf (λ q. P q ⊎ (q ≡ n)) (lesser o n)
least_lesser P None n h = (inr refl, λ q i. elim i [ inl p ↦ absurd (h q p) | inr s ↦ subst (λ x. stands_before x n ≡ false) (sym s) (before_itself n) ])
least_lesser P (Some k) n h = lesser_step P k n (stands_before n k) refl h

-- the name that is kept, with those of a list
pub least_in : (P : List ℕ → Type 0) (o : Option (List ℕ)) (ns : List (List ℕ)) → IsLeastOf P o → IsLeastOf (λ q. P q ⊎ IsIn q ns) (least_of o ns)
least_in P o [] h = least_alike P (λ q. P q ⊎ IsIn q []) o (λ q p. inl p) (λ q i. elim i [ inl p ↦ p | inr n ↦ absurd n ]) h
least_in P o (n ∷ ns) h =
    least_alike (λ q. (P q ⊎ (q ≡ n)) ⊎ IsIn q ns) (λ q. P q ⊎ IsIn q (n ∷ ns)) (least_of (lesser o n) ns)
    (λ q i. elim i [ inl p ↦ elim p [ inl a ↦ inl a | inr b ↦ inr (inl b) ] | inr m ↦ inr (inr m) ])
    (λ q i. elim i [ inl p ↦ inl (inl p) | inr m ↦ elim m [ inl b ↦ inl (inr b) | inr j ↦ inr j ] ])
    (least_in (λ q. P q ⊎ (q ≡ n)) (lesser o n) ns (least_lesser P o n h))

not_first : (q m n : List ℕ) (o : Ordering) → slice_cmp nat_cmp q n ≡ o → stands_before q m ≡ true → stands_before n m ≡ false → stands_before q n ≡ false → ⊥
not_first q m n Less h t e f = let d : true ≡ false = sym (ap is_lt h) ∙ f in cc
not_first q m n Equal h t e f = let d : true ≡ false = sym t ∙ ap is_lt (nat_list_cmp_total.congr q n m h) ∙ e in cc
not_first q m n Greater h t e f =
    let b : stands_before n q ≡ true = ap is_lt (nat_list_cmp_total.antisymm n q ∙ ap ordering_reverse h) in
    let d : true ≡ false = sym (before_trans n q m b t) ∙ e in cc

-- what isn't before a name isn't before one that this name isn't after
not_before_other : (q m n : List ℕ) → stands_before n m ≡ false → stands_before q n ≡ false → stands_before q m ≡ false
not_before_other q m n e f = not_so (stands_before q m) (λ t. not_first q m n (slice_cmp nat_cmp q n) refl t e f)

both_step : (P Q : List ℕ → Type 0) (m n : List ℕ) (b : Bool) → stands_before n m ≡ b → IsLeastOf P (Some m) → IsLeastOf Q (Some n) → IsLeastOf (λ q. P q ⊎ Q q) (cond b (Some n) (Some m))
both_step P Q m n true e h k = (inr k.0, λ q i. elim i [ inl p ↦ not_before q m n e (h.1 q p) | inr j ↦ k.1 q j ])
both_step P Q m n false e h k = (inl h.0, λ q i. elim i [ inl p ↦ h.1 q p | inr j ↦ not_before_other q m n e (k.1 q j) ])

-- the least of two collections
pub least_both : (P Q : List ℕ → Type 0) (o r : Option (List ℕ)) → IsLeastOf P o → IsLeastOf Q r → IsLeastOf (λ q. P q ⊎ Q q) (lesser_of o r)
least_both P Q o None h k = least_alike P (λ q. P q ⊎ Q q) o (λ q p. inl p) (λ q i. elim i [ inl p ↦ p | inr j ↦ absurd (k q j) ]) h
least_both P Q None (Some n) h k = (inr k.0, λ q i. elim i [ inl p ↦ absurd (h q p) | inr j ↦ k.1 q j ])
least_both P Q (Some m) (Some n) h k = both_step P Q m n (stands_before n m) refl h k

-- the least of names and of further ones
pub least_append : (o : Option (List ℕ)) (xs ys : List (List ℕ)) → least_of o (xs ++ ys) ≡ least_of (least_of o xs) ys
least_append o [] ys = refl
least_append o (x ∷ xs) ys = least_append (lesser o x) xs ys
