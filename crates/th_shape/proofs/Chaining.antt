-- Chains of first supertypes.
use Rattle.std.proofs.Common.{◌≡◌, ℕ, zero, suc, ◌+◌, ◌<◌, ◌≤◌, ◌↔◌, List, [], ◌∷◌, map, length, get_or, Bool, true, false, nat_eq, cond, refl, sym, ap, ◌∙◌, subst, ◌⊎◌, inl, inr, arith, Option, Some, None, IsTrue}
use Rattle.std.proofs.lemmas.Bool.{cases_Bool, eqb-true}
use Rattle.std.proofs.lemmas.Bool.Decides.{nat_tests}
use Rattle.std.specs.List.Sorted.{IsPermutation}
use Rattle.std.specs.Prelude.{slice_get, option_map, option_and_then, unwrap_or}
use Rattle.th_type.specs.Lists.{IsIn}
use Rattle.th_type.specs.Ordering.{SupersFirst, StandsBefore}
use Rattle.th_type.specs.Types.{TypeExpr, TypeExprs, int_ty, bool_ty, text_ty, array_ty, named_ty, param_ty, list_of, subst_ty, same_ty}
use Rattle.th_type.specs.Declarations.{DeclaredType, supers_of}
use Rattle.th_type.specs.Subtypes.{parents, head_of}
use Rattle.th_type.proofs.Same.{same_self, same_equal}
use Rattle.th_views.specs.Lookups.{index_of, after}
use Rattle.th_shape.specs.Lines.{first_parent, FirstClimbs, OnChain}
use Rattle.th_shape.specs.Placed.{place_by}
use Rattle.th_shape.proofs.Marking.{super_in}

pub get_map : {A B : Type 0} (f : A → B) (xs : List A) (k : ℕ) → slice_get (map f xs) k ≡ option_map f (slice_get xs k)
get_map f [] k = refl
get_map f (x ∷ xs) zero = refl
get_map f (x ∷ xs) (suc k) = get_map f xs k

pub got_in : {A : Type 0} (xs : List A) (k : ℕ) (x : A) → slice_get xs k ≡ Some x → IsIn x xs
got_in [] k x e = absurd (cc)
got_in (y ∷ ys) zero x e = inl (cc)
got_in (y ∷ ys) (suc k) x e = inr (got_in ys k x e)

-- the first place at which a number stands
pub index_first : (l : List ℕ) (n i : ℕ) → slice_get l i ≡ Some n → (j : ℕ) × (index_of n l ≡ Some j) × (j ≤ i)
index_first [] n i e = absurd (cc)
index_first (x ∷ xs) n i e = by (cases_Bool (nat_eq x n)) i e (λ j f. index_first xs n j f)
  where
    self : (a : ℕ) → nat_eq a a ≡ false → ⊥
    self a q = let t : nat_eq a a ≡ true = grind (arith, nat_tests) in let z : true ≡ false = sym t ∙ q in absurd (cc (z))

    by : (nat_eq x n ≡ true) ⊎ (nat_eq x n ≡ false) → (i : ℕ) → slice_get (x ∷ xs) i ≡ Some n → ((j : ℕ) → slice_get xs j ≡ Some n → (k : ℕ) × (index_of n xs ≡ Some k) × (k ≤ j))
        → (j : ℕ) × (cond (nat_eq x n) (Some 0) (after (index_of n xs)) ≡ Some j) × (j ≤ i)
    by (inl t) i e again = (0, ap (λ b. cond b (Some 0) (after (index_of n xs))) t, omega arith)
    by (inr f) zero e again = let z : x ≡ n = cc in absurd (self n (subst (λ a. nat_eq a n ≡ false) z f))
    by (inr f) (suc i) e again = let r = again i e in (r.0 + 1, ap (λ b. cond b (Some 0) (after (index_of n xs))) f ∙ ap after r.1, (let h : r.0 ≤ i = r.2 in omega arith))

pub index_got : (l : List ℕ) (n k : ℕ) → index_of n l ≡ Some k → slice_get l k ≡ Some n
index_got [] n k e = absurd (cc)
index_got (x ∷ xs) n k e = by (cases_Bool (nat_eq x n)) (λ j f. index_got xs n j f)
  where
    some : (o : Option ℕ) → after o ≡ Some k → ((j : ℕ) → o ≡ Some j → slice_get xs j ≡ Some n) → slice_get (x ∷ xs) k ≡ Some n
    some None f again = absurd (cc)
    some (Some j) f again = let z : suc j ≡ k = (let y : j + 1 ≡ k = cc in omega arith) in subst (λ i. slice_get (x ∷ xs) i ≡ Some n) z (again j refl)

    by : (nat_eq x n ≡ true) ⊎ (nat_eq x n ≡ false) → ((j : ℕ) → index_of n xs ≡ Some j → slice_get xs j ≡ Some n) → slice_get (x ∷ xs) k ≡ Some n
    by (inl t) again = let z : Some 0 ≡ Some k = sym (ap (λ b. cond b (Some 0) (after (index_of n xs))) t) ∙ e in let y : 0 ≡ k = cc in subst (λ i. slice_get (x ∷ xs) i ≡ Some n) y (ap Some (eqb-true x n t))
    by (inr f) again = some (index_of n xs) (sym (ap (λ b. cond b (Some 0) (after (index_of n xs))) f) ∙ e) again

-- the first parent of a type is that of a declared type
pub parent_of : (D : List DeclaredType) (t u : TypeExpr) → first_parent D t ≡ Some u → (n : ℕ) × (args : TypeExprs) × (s : TypeExpr) × (t ≡ named_ty n args) × (slice_get (supers_of D n) 0 ≡ Some s) × (u ≡ subst_ty (list_of args) s)
parent_of D int_ty u e = absurd (cc)
parent_of D bool_ty u e = absurd (cc)
parent_of D text_ty u e = absurd (cc)
parent_of D (array_ty t) u e = absurd (cc)
parent_of D (named_ty n args) u e = by (slice_get (supers_of D n) 0) refl (sym (get_map (subst_ty (list_of args)) (supers_of D n) 0) ∙ e)
  where
    by : (o : Option TypeExpr) → slice_get (supers_of D n) 0 ≡ o → option_map (subst_ty (list_of args)) o ≡ Some u
        → (m : ℕ) × (bs : TypeExprs) × (s : TypeExpr) × (named_ty n args ≡ named_ty m bs) × (slice_get (supers_of D m) 0 ≡ Some s) × (u ≡ subst_ty (list_of bs) s)
    by None q f = absurd (cc (f))
    by (Some s) q f = (n, args, s, refl, q, cc (f))
parent_of D (param_ty k) u e = absurd (cc)

-- a declared supertype stands at an earlier place
pub super_place : (D : List DeclaredType) (types : List ℕ) → SupersFirst D types → (n k i : ℕ) (s : TypeExpr) → slice_get types k ≡ Some n → slice_get (supers_of D n) i ≡ Some s
    → (m : ℕ) × (args : TypeExprs) × (j : ℕ) × (s ≡ named_ty m args) × (index_of m types ≡ Some j) × (j < k)
super_place D types f n k i s e g =
    let b = f k n s e (got_in (supers_of D n) i s g) in
    let q = index_first types b.1 b.0 b.5 in
    (b.1, b.2, q.0, b.3, q.1, (let h : q.0 ≤ b.0 = q.2 in let l : b.0 < k = b.4 in omega arith))

pub parent_lower : (D : List DeclaredType) (types : List ℕ) (f : ℕ → Option ℕ) → SupersFirst D types → IsPermutation (map (λ d. d.name) D) types → ((q : ℕ) → f q ≡ index_of q types)
    → (t u : TypeExpr) → first_parent D t ≡ Some u → unwrap_or (place_by f u) 0 < unwrap_or (place_by f t) 0
parent_lower D types f s p w t u e =
    let r = parent_of D t u e in
    let i = super_in D types r.0 0 r.2 p r.4 in
    let k = index_first types r.0 i.0 i.1 in
    let b = super_place D types s r.0 k.0 0 r.2 (index_got types r.0 k.0 k.1) r.4 in
    let left : place_by f u ≡ Some b.2 = ap (place_by f) (r.5 ∙ ap (subst_ty (list_of r.1)) b.3) ∙ w b.0 ∙ b.4 in
    let right : place_by f t ≡ Some k.0 = ap (place_by f) r.3 ∙ w r.0 ∙ k.1 in
    let l : unwrap_or (place_by f u) 0 ≡ b.2 = ap (λ o. unwrap_or o 0) left in
    let g : unwrap_or (place_by f t) 0 ≡ k.0 = ap (λ o. unwrap_or o 0) right in
    let h : b.2 < k.0 = b.5 in omega arith

-- the invariant of the walk
pub on_here : (D : List DeclaredType) (at from to : TypeExpr) (b : Bool) → (OnChain D at to ↔ OnChain D from to) → b ≡ same_ty at to → b ≡ true → IsTrue true ↔ OnChain D from to
on_here D at from to b i e t = ((λ _. i.0 (0, same_equal at to (sym e ∙ t))), (λ _. refl))

not_same : (at to : TypeExpr) (b : Bool) → b ≡ same_ty at to → b ≡ false → at ≡ to → ⊥
not_same at to b e f q = let z : same_ty at at ≡ false = subst (λ u. same_ty at u ≡ false) (sym q) (sym e ∙ f) in both (same_ty at at) (same_self at) z
  where
    both : (c : Bool) → c ≡ true → c ≡ false → ⊥
    both c x y = cc

pub on_end : (D : List DeclaredType) (at from to : TypeExpr) (b : Bool) → (OnChain D at to ↔ OnChain D from to) → b ≡ same_ty at to → b ≡ false → first_parent D at ≡ None → IsTrue false ↔ OnChain D from to
on_end D at from to b i e f n = ((λ q. absurd (cc)), (λ o. absurd (none (i.1 o).0 (i.1 o).1)))
  where
    none : (k : ℕ) → FirstClimbs D k at to → ⊥
    none zero h = not_same at to b e f h
    none (suc k) h = absurd (cc (n, h.1))

pub on_step : (D : List DeclaredType) (at from to parent : TypeExpr) (b : Bool) → (OnChain D at to ↔ OnChain D from to) → b ≡ same_ty at to → b ≡ false → first_parent D at ≡ Some parent → OnChain D parent to ↔ OnChain D from to
on_step D at from to parent b i e f n = ((λ o. i.0 (suc o.0, (parent, n, o.1))), (λ o. next (i.1 o).0 (i.1 o).1))
  where
    next : (k : ℕ) → FirstClimbs D k at to → OnChain D parent to
    next zero h = absurd (not_same at to b e f h)
    next (suc k) h = (k, subst (λ v. FirstClimbs D k v to) (cc (n, h.1)) h.2)

pub same_start : (D : List DeclaredType) (at from to : TypeExpr) → at ≡ from → OnChain D at to ↔ OnChain D from to
same_start D at from to e = ((λ o. subst (λ t. OnChain D t to) e o), (λ o. subst (λ t. OnChain D t to) (sym e) o))
