-- What is noted of the lists of supertypes says which types are marked.
use Rattle.std.proofs.Common.{◌≡◌, ℕ, zero, suc, ◌+◌, ◌<◌, ◌≤◌, ◌↔◌, List, [], ◌∷◌, map, length, get_or, drop, Bool, true, false, nat_eq, ◌&&◌, cond, refl, sym, ap, ◌∙◌, subst, ◌⊎◌, inl, inr, arith, Option, Some, None, IsTrue}
use Rattle.std.proofs.lemmas.Bool.{cases_Bool, eqb-true}
use Rattle.std.proofs.lemmas.Bool.Decides.{nat_tests}
use Rattle.std.proofs.lemmas.List.Sorted.{Contains-permutation}
use Rattle.std.specs.List.{Contains}
use Rattle.std.specs.List.Sorted.{IsPermutation}
use Rattle.std.specs.Prelude.{slice_get, if◌then◌else◌}
use Rattle.th_type.specs.Types.{TypeExpr, TypeExprs, int_ty, bool_ty, text_ty, array_ty, named_ty, param_ty}
use Rattle.th_type.specs.Closure.{is_head}
use Rattle.th_type.specs.Subtypes.{head_of}
use Rattle.th_type.specs.Types.{ty_of}
use Rattle.th_type.specs.declared.ty.Ty.{Ty}
use Rattle.th_shape.proofs.Steps.{map_drop, drop_end}
use Rattle.th_type.specs.Declarations.{DeclaredType, supers_of, supertypes_in, find_type}
use Rattle.th_shape.specs.Marks.{NamedAt, IsMarked, noted, noted_in, noted_all}

-- what is noted where the pairs S of a type and a place are those at which it is named
abbrev Notes : (ℕ → ℕ → Type 0) → Option Bool → Type 0
Notes S None = (n k : ℕ) → S n k → ⊥
Notes S (Some true) = ((n : ℕ) × S n 1) × ((n k : ℕ) → S n k → k ≡ 1)
Notes S (Some false) = (n : ℕ) × (k : ℕ) × S n k × (k ≡ 1 → ⊥)

same_notes : (S T : ℕ → ℕ → Type 0) (o : Option Bool) → ((n k : ℕ) → S n k → T n k) → ((n k : ℕ) → T n k → S n k) → Notes S o → Notes T o
same_notes S T None f g h = λ n k t. h n k (g n k t)
same_notes S T (Some true) f g h = ((h.0.0, f h.0.0 1 h.0.1), λ n k t. h.1 n k (g n k t))
same_notes S T (Some false) f g h = (h.0, h.1, f h.0 h.1 h.2, h.3)

-- one more pair
one_note : (S : ℕ → ℕ → Type 0) (o : Option Bool) (a b : ℕ) → Notes S o → Notes (λ n k. S n k ⊎ ((n ≡ a) × (k ≡ b))) (noted o (nat_eq b 1))
one_note S o a b h = by (cases_Bool (nat_eq b 1))
  where
    yes : (p : Option Bool) → b ≡ 1 → Notes S p → Notes (λ n k. S n k ⊎ ((n ≡ a) × (k ≡ b))) (noted p true)
    yes None e g = ((a, inr (refl, sym e)), λ n k s. elim s as (λ _. k ≡ 1) [ inl t ↦ absurd (g n k t) | inr q ↦ q.1 ∙ e ])
    yes (Some true) e g = ((a, inr (refl, sym e)), λ n k s. elim s as (λ _. k ≡ 1) [ inl t ↦ g.1 n k t | inr q ↦ q.1 ∙ e ])
    yes (Some false) e g = (g.0, g.1, inl g.2, g.3)

    no : (p : Option Bool) → (b ≡ 1 → ⊥) → Notes S p → Notes (λ n k. S n k ⊎ ((n ≡ a) × (k ≡ b))) (noted p false)
    no None f g = (a, b, inr (refl, refl), f)
    no (Some true) f g = (a, b, inr (refl, refl), f)
    no (Some false) f g = (a, b, inr (refl, refl), f)

    by : (nat_eq b 1 ≡ true) ⊎ (nat_eq b 1 ≡ false) → Notes (λ n k. S n k ⊎ ((n ≡ a) × (k ≡ b))) (noted o (nat_eq b 1))
    by (inl t) = rw t (yes o (eqb-true b 1 t) h)
    by (inr f) = rw f (no o (λ e. differ e f) h)
      where
        differ : b ≡ 1 → nat_eq b 1 ≡ false → ⊥
        differ e f = let z : nat_eq 1 1 ≡ false = subst (λ x. nat_eq x 1 ≡ false) e f in absurd (cc)

-- the type at a place of a list is the type q
abbrev HeadAt : List TypeExpr → ℕ → ℕ → Type 0
HeadAt ts i q = (args : TypeExprs) × (slice_get ts i ≡ Some (named_ty q args))

head_is : (q : ℕ) (t : TypeExpr) → is_head q t ≡ true → (args : TypeExprs) × (t ≡ named_ty q args)
head_is q int_ty e = absurd (cc)
head_is q bool_ty e = absurd (cc)
head_is q text_ty e = absurd (cc)
head_is q (array_ty t) e = absurd (cc)
head_is q (named_ty n args) e = (args, ap (λ m. named_ty m args) (sym (eqb-true q n e)))
head_is q (param_ty k) e = absurd (cc)

is_head_here : (q : ℕ) (args : TypeExprs) → is_head q (named_ty q args) ≡ true
is_head_here q args = grind (arith, nat_tests)

list_notes : (S : ℕ → ℕ → Type 0) (a k q : ℕ) (ts : List TypeExpr) (o : Option Bool) → Notes S o → Notes (λ n j. S n j ⊎ ((n ≡ a) × ((i : ℕ) × (j ≡ k + i) × HeadAt ts i q))) (noted_in k ts q o)
list_notes S a k q [] o h = same_notes S (λ n j. S n j ⊎ ((n ≡ a) × ((i : ℕ) × (j ≡ k + i) × HeadAt [] i q))) o (λ n j s. inl s)
    (λ n j s. elim s as (λ _. S n j) [ inl t ↦ t | inr r ↦ absurd (cc (r.1.2.1)) ]) h
list_notes S a k q (t ∷ ts) o h = by (cases_Bool (is_head q t)) (λ T p g. list_notes T a (k + 1) q ts p g)
  where
    by : (is_head q t ≡ true) ⊎ (is_head q t ≡ false) → ((T : ℕ → ℕ → Type 0) (p : Option Bool) → Notes T p → Notes (λ n j. T n j ⊎ ((n ≡ a) × ((i : ℕ) × (j ≡ k + 1 + i) × HeadAt ts i q))) (noted_in (k + 1) ts q p)) → Notes (λ n j. S n j ⊎ ((n ≡ a) × ((i : ℕ) × (j ≡ k + i) × HeadAt (t ∷ ts) i q))) (noted_in (k + 1) ts q (cond (is_head q t) (noted o (nat_eq k 1)) o))
    by (inl e) again = rw e (same_notes
        (λ n j. (S n j ⊎ ((n ≡ a) × (j ≡ k))) ⊎ ((n ≡ a) × ((i : ℕ) × (j ≡ k + 1 + i) × HeadAt ts i q)))
        (λ n j. S n j ⊎ ((n ≡ a) × ((i : ℕ) × (j ≡ k + i) × HeadAt (t ∷ ts) i q)))
        (noted_in (k + 1) ts q (noted o (nat_eq k 1)))
        (λ n j s. elim s as (λ _. S n j ⊎ ((n ≡ a) × ((i : ℕ) × (j ≡ k + i) × HeadAt (t ∷ ts) i q))) [
          | inl x ↦ elim x as (λ _. S n j ⊎ ((n ≡ a) × ((i : ℕ) × (j ≡ k + i) × HeadAt (t ∷ ts) i q))) [
            | inl y ↦ inl y
            | inr y ↦ inr (y.0, (0, (let z : j ≡ k = y.1 in omega arith), ((head_is q t e).0, ap Some (head_is q t e).1)))
          ]
          | inr r ↦ inr (r.0, (suc r.1.0, (let z : j ≡ k + 1 + r.1.0 = r.1.1 in omega arith), r.1.2))
        ])
        (λ n j s. elim s as (λ _. (S n j ⊎ ((n ≡ a) × (j ≡ k))) ⊎ ((n ≡ a) × ((i : ℕ) × (j ≡ k + 1 + i) × HeadAt ts i q))) [
          | inl x ↦ inl (inl x)
          | inr r ↦ split n j r.0 r.1.0 r.1.1 r.1.2
        ])
        (again (λ n j. S n j ⊎ ((n ≡ a) × (j ≡ k))) (noted o (nat_eq k 1)) (one_note S o a k h)))
      where
        split : (n j : ℕ) → n ≡ a → (i : ℕ) → j ≡ k + i → HeadAt (t ∷ ts) i q → (S n j ⊎ ((n ≡ a) × (j ≡ k))) ⊎ ((n ≡ a) × ((i : ℕ) × (j ≡ k + 1 + i) × HeadAt ts i q))
        split n j g zero f x = inl (inr (g, (omega arith)))
        split n j g (suc i) f x = inr (g, (i, (omega arith), x))
    by (inr e) again = rw e (same_notes
        (λ n j. S n j ⊎ ((n ≡ a) × ((i : ℕ) × (j ≡ k + 1 + i) × HeadAt ts i q)))
        (λ n j. S n j ⊎ ((n ≡ a) × ((i : ℕ) × (j ≡ k + i) × HeadAt (t ∷ ts) i q)))
        (noted_in (k + 1) ts q o)
        (λ n j s. elim s as (λ _. S n j ⊎ ((n ≡ a) × ((i : ℕ) × (j ≡ k + i) × HeadAt (t ∷ ts) i q))) [
          | inl x ↦ inl x
          | inr r ↦ inr (r.0, (suc r.1.0, (let z : j ≡ k + 1 + r.1.0 = r.1.1 in omega arith), r.1.2))
        ])
        (λ n j s. elim s as (λ _. S n j ⊎ ((n ≡ a) × ((i : ℕ) × (j ≡ k + 1 + i) × HeadAt ts i q))) [
          | inl x ↦ inl x
          | inr r ↦ inr (r.0, past n j r.1.0 r.1.1 r.1.2)
        ])
        (again S o h))
      where
        past : (n j i : ℕ) → j ≡ k + i → HeadAt (t ∷ ts) i q → (i : ℕ) × (j ≡ k + 1 + i) × HeadAt ts i q
        past n j zero f x = let z : t ≡ named_ty q x.0 = cc (x.1) in absurd (not_both (is_head q t) (ap (is_head q) z ∙ is_head_here q x.0) e)
          where
            not_both : (b : Bool) → b ≡ true → b ≡ false → ⊥
            not_both b f g = cc
        past n j (suc i) f x = (i, (omega arith), x)

-- all lists
all_notes : (D : List DeclaredType) (S : ℕ → ℕ → Type 0) (q : ℕ) (ns : List ℕ) (o : Option Bool) → Notes S o → Notes (λ n j. S n j ⊎ ((i : ℕ) × (slice_get ns i ≡ Some n) × NamedAt D n j q)) (noted_all D ns q o)
all_notes D S q [] o h = same_notes S (λ n j. S n j ⊎ ((i : ℕ) × (slice_get [] i ≡ Some n) × NamedAt D n j q)) o (λ n j s. inl s)
    (λ n j s. elim s as (λ _. S n j) [ inl t ↦ t | inr r ↦ absurd (cc (r.1)) ]) h
all_notes D S q (m ∷ ns) o h = same_notes
    (λ n j. (S n j ⊎ ((n ≡ m) × ((i : ℕ) × (j ≡ 0 + i) × HeadAt (supers_of D m) i q))) ⊎ ((i : ℕ) × (slice_get ns i ≡ Some n) × NamedAt D n j q))
    (λ n j. S n j ⊎ ((i : ℕ) × (slice_get (m ∷ ns) i ≡ Some n) × NamedAt D n j q))
    (noted_all D ns q (noted_in 0 (supers_of D m) q o))
    (λ n j s. elim s as (λ _. S n j ⊎ ((i : ℕ) × (slice_get (m ∷ ns) i ≡ Some n) × NamedAt D n j q)) [
      | inl x ↦ elim x as (λ _. S n j ⊎ ((i : ℕ) × (slice_get (m ∷ ns) i ≡ Some n) × NamedAt D n j q)) [
        | inl y ↦ inl y
        | inr y ↦ inr (0, ap Some (sym y.0), first n j y.0 y.1.0 y.1.1 y.1.2)
      ]
      | inr r ↦ inr (suc r.0, r.1, r.2)
    ])
    (λ n j s. elim s as (λ _. (S n j ⊎ ((n ≡ m) × ((i : ℕ) × (j ≡ 0 + i) × HeadAt (supers_of D m) i q))) ⊎ ((i : ℕ) × (slice_get ns i ≡ Some n) × NamedAt D n j q)) [
      | inl x ↦ inl (inl x)
      | inr r ↦ split n j r.0 r.1 r.2
    ])
    (all_notes D (λ n j. S n j ⊎ ((n ≡ m) × ((i : ℕ) × (j ≡ 0 + i) × HeadAt (supers_of D m) i q))) q ns (noted_in 0 (supers_of D m) q o) (list_notes S m 0 q (supers_of D m) o h))
  where
    first : (n j : ℕ) → n ≡ m → (i : ℕ) → j ≡ 0 + i → HeadAt (supers_of D m) i q → NamedAt D n j q
    first n j e i f x = let z : i ≡ j = omega arith in subst (λ a. NamedAt D a j q) (sym e) (subst (λ b. NamedAt D m b q) z x)

    split : (n j i : ℕ) → slice_get (m ∷ ns) i ≡ Some n → NamedAt D n j q → (S n j ⊎ ((n ≡ m) × ((i : ℕ) × (j ≡ 0 + i) × HeadAt (supers_of D m) i q))) ⊎ ((i : ℕ) × (slice_get ns i ≡ Some n) × NamedAt D n j q)
    split n j zero e x = let z : n ≡ m = cc in inl (inr (z, (j, (omega arith), subst (λ a. NamedAt D a j q) z x)))
    split n j (suc i) e x = inr (i, e, x)

-- a type with declared supertypes is declared
found_in : (D : List DeclaredType) (n : ℕ) (d : DeclaredType) → find_type D n ≡ Some d → Contains (map (λ x. x.name) D) n
found_in [] n d e = absurd (cc)
found_in (x ∷ xs) n d e = by (cases_Bool (nat_eq n x.name)) (λ f. found_in xs n d f)
  where
    by : (nat_eq n x.name ≡ true) ⊎ (nat_eq n x.name ≡ false) → (find_type xs n ≡ Some d → Contains (map (λ y. y.name) xs) n) → Contains (map (λ y. y.name) (x ∷ xs)) n
    by (inl t) again = (0, omega arith, sym (eqb-true n x.name t))
    by (inr f) again = let c = again (rw f at e) in let h : c.0 < length (map (λ y. y.name) xs) = c.1 in (suc c.0, omega arith, c.2)

pub contains_got : (l : List ℕ) (n : ℕ) → Contains l n → (i : ℕ) × (slice_get l i ≡ Some n)
contains_got l n c = (c.0, got l c.0 n c.1 c.2)
  where
    got : (l : List ℕ) (j d : ℕ) → j < length l → get_or l j d ≡ d → slice_get l j ≡ Some d
    got [] j d h e = absurd (omega arith)
    got (x ∷ xs) zero d h e = ap Some e
    got (x ∷ xs) (suc j) d h e = got xs j d (omega arith) e

-- a type with declared supertypes is one of the types
pub super_in : (D : List DeclaredType) (types : List ℕ) (n k : ℕ) (t : TypeExpr) → IsPermutation (map (λ d. d.name) D) types → slice_get (supers_of D n) k ≡ Some t → (i : ℕ) × (slice_get types i ≡ Some n)
super_in D types n k t p h = by (find_type D n) refl h
  where
    by : (o : Option DeclaredType) → find_type D n ≡ o → slice_get (supertypes_in o) k ≡ Some t → (i : ℕ) × (slice_get types i ≡ Some n)
    by None e f = absurd (cc (f))
    by (Some d) e f = contains_got types n (Contains-permutation (map (λ d. d.name) D) types n p (found_in D n d e))

pub marked_is : (D : List DeclaredType) (types : List ℕ) (q : ℕ) → IsPermutation (map (λ d. d.name) D) types → (noted_all D types q None ≡ Some true) ↔ IsMarked D q
marked_is D types q p = (
  (λ e. let h = subst (λ o. Notes (λ n j. ⊥ ⊎ ((i : ℕ) × (slice_get types i ≡ Some n) × NamedAt D n j q)) o) e start in
      record { named = (h.0.0, elim h.0.1 as (λ _. NamedAt D h.0.0 1 q) [ inl x ↦ absurd x | inr r ↦ r.2 ]); second = λ n k m. h.1 n k (inr (there n k m).0) }),
  (λ m. by (noted_all D types q None) m start),
)
  where
    start : Notes (λ n j. ⊥ ⊎ ((i : ℕ) × (slice_get types i ≡ Some n) × NamedAt D n j q)) (noted_all D types q None)
    start = all_notes D (λ n j. ⊥) q types None (λ n k x. x)

    there : (n k : ℕ) → NamedAt D n k q → ((i : ℕ) × (slice_get types i ≡ Some n) × NamedAt D n k q) × Unit {0}
    there n k m = let r = super_in D types n k (named_ty q m.0) p m.1 in ((r.0, r.1, m), tt)

    by : (o : Option Bool) → IsMarked D q → Notes (λ n j. ⊥ ⊎ ((i : ℕ) × (slice_get types i ≡ Some n) × NamedAt D n j q)) o → o ≡ Some true
    by None m h = absurd (h m.named.0 1 (inr (there m.named.0 1 m.named.1).0))
    by (Some true) m h = refl
    by (Some false) m h = absurd (h.3 (elim h.2 as (λ _. h.1 ≡ 1) [ inl x ↦ absurd x | inr r ↦ m.second h.0 h.1 r.2 ]))

-- what a type names, as a test
pub head_some : (q : ℕ) (t : TypeExpr) (n : ℕ) → head_of t ≡ Some n → is_head q t ≡ nat_eq q n
head_some q int_ty n e = absurd (cc)
head_some q bool_ty n e = absurd (cc)
head_some q text_ty n e = absurd (cc)
head_some q (array_ty t) n e = absurd (cc)
head_some q (named_ty m ts) n e = let z : m ≡ n = cc in ap (nat_eq q) z
head_some q (param_ty k) n e = absurd (cc)

pub head_none : (q : ℕ) (t : TypeExpr) → head_of t ≡ None → is_head q t ≡ false
head_none q int_ty e = refl
head_none q bool_ty e = refl
head_none q text_ty e = refl
head_none q (array_ty t) e = refl
head_none q (named_ty m ts) e = absurd (cc)
head_none q (param_ty k) e = refl

pub noted_step : (xs : List Ty) (k : ℕ) (x d : Ty) (q : ℕ) (old new total : Option Bool) → k < length xs → x ≡ get_or xs k d → new ≡ cond (is_head q (ty_of x)) (noted old (nat_eq k 1)) old
    → noted_in k (map ty_of (drop k xs)) q old ≡ total → noted_in (k + 1) (map ty_of (drop (k + 1) xs)) q new ≡ total
noted_step xs k x d q old new total h e n t = ap (noted_in (k + 1) (map ty_of (drop (k + 1) xs)) q) n ∙ ap (λ ts. noted_in k ts q old) (sym (map_drop ty_of xs k x d h e)) ∙ t

pub noted_end : (xs : List Ty) (i k : ℕ) (q : ℕ) (old total : Option Bool) → length xs ≤ i → noted_in k (map ty_of (drop i xs)) q old ≡ total → old ≡ total
noted_end xs i k q old total h t = ap (λ ts. noted_in k (map ty_of ts) q old) (sym (drop_end xs i h)) ∙ t
