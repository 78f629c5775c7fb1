-- Laws of lists of heights.
use Rattle.std.proofs.Common.{◌≡◌, ℕ, zero, suc, ◌+◌, ◌≤◌, max, min, ◌⊎◌, inl, inr, List, [], ◌∷◌, refl, sym, subst, arith}
use Rattle.th_type.specs.Types.{TypeExpr, int_ty, bool_ty, text_ty, array_ty, named_ty, param_ty, TypeExprs, no_ty, more_ty}
use Rattle.th_inherits.specs.Heights.{height_at, lifted, above, raised, raised_all}
use Rattle.th_inherits.specs.Occurrences.{Occurs, OccursIn}

pub lifted_grows : (k h : ℕ) (hs : List ℕ) (l : ℕ) → height_at hs l ≤ height_at (lifted k h hs) l
lifted_grows zero h [] l = omega arith
lifted_grows zero h (x ∷ hs) zero = omega arith
lifted_grows zero h (x ∷ hs) (suc l) = omega arith
lifted_grows (suc k) h [] l = omega arith
lifted_grows (suc k) h (x ∷ hs) zero = omega arith
lifted_grows (suc k) h (x ∷ hs) (suc l) = lifted_grows k h hs l

pub lifted_has : (k h : ℕ) (hs : List ℕ) → h ≤ height_at (lifted k h hs) k
lifted_has zero h [] = omega arith
lifted_has zero h (x ∷ hs) = omega arith
lifted_has (suc k) h [] = lifted_has k h []
lifted_has (suc k) h (x ∷ hs) = lifted_has k h hs

max_one : (x h : ℕ) → (max x h ≡ x) ⊎ (max x h ≡ h)
max_one x h = grind arith

first_lifted : (k x h : ℕ) → (max x h ≡ x) ⊎ (max x h ≡ h) → (max x h ≡ x) ⊎ ((k ≡ k) × (max x h ≡ h))
first_lifted k x h (inl e) = inl e
first_lifted k x h (inr e) = inr (refl, e)

further : (l k x y h : ℕ) → (y ≡ x) ⊎ ((l ≡ k) × (y ≡ h)) → (y ≡ x) ⊎ ((suc l ≡ suc k) × (y ≡ h))
further l k x y h (inl e) = inl e
further l k x y h (inr e) = let s = e.0 in inr (omega arith, e.1)

-- each height is as before, or the new one at its place
pub lifted_is : (k h : ℕ) (hs : List ℕ) (l : ℕ) → (height_at (lifted k h hs) l ≡ height_at hs l) ⊎ ((l ≡ k) × (height_at (lifted k h hs) l ≡ h))
lifted_is zero h [] zero = inr (refl, refl)
lifted_is zero h [] (suc l) = inl refl
lifted_is zero h (x ∷ hs) zero = first_lifted 0 x h (max_one x h)
lifted_is zero h (x ∷ hs) (suc l) = inl refl
lifted_is (suc k) h [] zero = inl refl
lifted_is (suc k) h [] (suc l) = further l k 0 (height_at (lifted k h []) l) h (lifted_is k h [] l)
lifted_is (suc k) h (x ∷ hs) zero = inl refl
lifted_is (suc k) h (x ∷ hs) (suc l) = further l k (height_at hs l) (height_at (lifted k h hs) l) h (lifted_is k h hs l)

-- no height falls
mutual
  pub raised_grows : (h : ℕ) (t : TypeExpr) (hs : List ℕ) (l : ℕ) → height_at hs l ≤ height_at (raised h t hs) l
  raised_grows h int_ty hs l = lifted_grows 0 h hs l
  raised_grows h bool_ty hs l = lifted_grows 0 h hs l
  raised_grows h text_ty hs l = lifted_grows 0 h hs l
  raised_grows h (array_ty t) hs l = raised_grows (above h) t hs l
  raised_grows h (named_ty n ts) hs l =
      let a = lifted_grows 0 h hs l in
      let b = raised_all_grows (above h) ts (lifted 0 h hs) l in
      omega (arith, a, b)
  raised_grows h (param_ty k) hs l = lifted_grows (k + 1) h hs l

  pub raised_all_grows : (h : ℕ) (ts : TypeExprs) (hs : List ℕ) (l : ℕ) → height_at hs l ≤ height_at (raised_all h ts hs) l
  raised_all_grows h no_ty hs l = omega arith
  raised_all_grows h (more_ty t ts) hs l =
      let a = raised_grows h t hs l in
      let b = raised_all_grows h ts (raised h t hs) l in
      omega (arith, a, b)

top_has : (h d k : ℕ) (hs : List ℕ) (l : ℕ) → l ≡ k → d ≡ 0 → min (h + d) 601 ≤ height_at (lifted k h hs) l
top_has h d k hs l e z =
    let a : h ≤ height_at (lifted k h hs) l = subst (λ j. h ≤ height_at (lifted k h hs) j) (sym e) (lifted_has k h hs) in
    omega (arith, a, z)

-- what stands in the type is as high in the list, up to 601
mutual
  pub raised_has : (h : ℕ) (t : TypeExpr) (hs : List ℕ) (l d : ℕ) → Occurs t l d → min (h + d) 601 ≤ height_at (raised h t hs) l
  raised_has h int_ty hs l d o = top_has h d 0 hs l o.0 o.1
  raised_has h bool_ty hs l d o = top_has h d 0 hs l o.0 o.1
  raised_has h text_ty hs l d o = top_has h d 0 hs l o.0 o.1
  raised_has h (array_ty t) hs l d o = let a = raised_has (above h) t hs l o.0 o.1 in let e = o.2 in omega (arith, a, e)
  raised_has h (named_ty n ts) hs l d (inl o) =
      let a = top_has h d 0 hs l o.0 o.1 in
      let b = raised_all_grows (above h) ts (lifted 0 h hs) l in
      omega (arith, a, b)
  raised_has h (named_ty n ts) hs l d (inr o) = let a = raised_all_has (above h) ts (lifted 0 h hs) l o.0 o.1 in let e = o.2 in omega (arith, a, e)
  raised_has h (param_ty k) hs l d o = let e : l ≡ k + 1 = let s = o.0 in omega arith in top_has h d (k + 1) hs l e o.1

  pub raised_all_has : (h : ℕ) (ts : TypeExprs) (hs : List ℕ) (l d : ℕ) → OccursIn ts l d → min (h + d) 601 ≤ height_at (raised_all h ts hs) l
  raised_all_has h no_ty hs l d o = absurd o
  raised_all_has h (more_ty t ts) hs l d (inl o) =
      let a = raised_has h t hs l d o in
      let b = raised_all_grows h ts (raised h t hs) l in
      omega (arith, a, b)
  raised_all_has h (more_ty t ts) hs l d (inr o) = raised_all_has h ts (raised h t hs) l d o

-- a height is as before, or that of something that stands so
abbrev pub IsOf : (ℕ → ℕ → Type 0) → ℕ → ℕ → ℕ → ℕ → Type 0
IsOf Stands h l old new = (new ≡ old) ⊎ ((d : ℕ) × Stands l d × (new ≤ h + d))

top_is : (Stands : ℕ → ℕ → Type 0) (h k l old new : ℕ) → Stands k 0 → (new ≡ old) ⊎ ((l ≡ k) × (new ≡ h)) → IsOf Stands h l old new
top_is Stands h k l old new s (inl e) = inl e
top_is Stands h k l old new s (inr e) = let b = e.1 in inr (0, subst (λ j. Stands j 0) (sym e.0) s, omega arith)

is_deeper : (P Q : ℕ → ℕ → Type 0) (h l old new : ℕ) → ((d : ℕ) → P l d → Q l (suc d)) → IsOf P (above h) l old new → IsOf Q h l old new
is_deeper P Q h l old new f (inl e) = inl e
is_deeper P Q h l old new f (inr o) = let b = o.2 in inr (suc o.0, f o.0 o.1, omega arith)

is_as : (P Q : ℕ → ℕ → Type 0) (h l old new : ℕ) → ((d : ℕ) → P l d → Q l d) → IsOf P h l old new → IsOf Q h l old new
is_as P Q h l old new f (inl e) = inl e
is_as P Q h l old new f (inr o) = inr (o.0, f o.0 o.1, o.2)

is_then : (P : ℕ → ℕ → Type 0) (h l old mid new : ℕ) → IsOf P h l old mid → IsOf P h l mid new → IsOf P h l old new
is_then P h l old mid new a (inl e) = subst (λ x. IsOf P h l old x) (sym e) a
is_then P h l old mid new a (inr o) = inr o

mutual
  pub raised_is : (h : ℕ) (t : TypeExpr) (hs : List ℕ) (l : ℕ) → IsOf (Occurs t) h l (height_at hs l) (height_at (raised h t hs) l)
  raised_is h int_ty hs l = top_is (Occurs int_ty) h 0 l (height_at hs l) (height_at (lifted 0 h hs) l) (refl, refl) (lifted_is 0 h hs l)
  raised_is h bool_ty hs l = top_is (Occurs bool_ty) h 0 l (height_at hs l) (height_at (lifted 0 h hs) l) (refl, refl) (lifted_is 0 h hs l)
  raised_is h text_ty hs l = top_is (Occurs text_ty) h 0 l (height_at hs l) (height_at (lifted 0 h hs) l) (refl, refl) (lifted_is 0 h hs l)
  raised_is h (array_ty t) hs l =
      is_deeper (Occurs t) (Occurs (array_ty t)) h l (height_at hs l) (height_at (raised (above h) t hs) l) (λ d o. (d, o, refl)) (raised_is (above h) t hs l)
  raised_is h (named_ty n ts) hs l =
      is_then (Occurs (named_ty n ts)) h l (height_at hs l) (height_at (lifted 0 h hs) l) (height_at (raised_all (above h) ts (lifted 0 h hs)) l)
      (top_is (Occurs (named_ty n ts)) h 0 l (height_at hs l) (height_at (lifted 0 h hs) l) (inl (refl, refl)) (lifted_is 0 h hs l))
      (is_deeper (OccursIn ts) (Occurs (named_ty n ts)) h l (height_at (lifted 0 h hs) l) (height_at (raised_all (above h) ts (lifted 0 h hs)) l) (λ d o. inr (d, o, refl)) (raised_all_is (above h) ts (lifted 0 h hs) l))
  raised_is h (param_ty k) hs l = top_is (Occurs (param_ty k)) h (k + 1) l (height_at hs l) (height_at (lifted (k + 1) h hs) l) (omega arith, refl) (lifted_is (k + 1) h hs l)

  pub raised_all_is : (h : ℕ) (ts : TypeExprs) (hs : List ℕ) (l : ℕ) → IsOf (OccursIn ts) h l (height_at hs l) (height_at (raised_all h ts hs) l)
  raised_all_is h no_ty hs l = inl refl
  raised_all_is h (more_ty t ts) hs l =
      is_then (OccursIn (more_ty t ts)) h l (height_at hs l) (height_at (raised h t hs) l) (height_at (raised_all h ts (raised h t hs)) l)
      (is_as (Occurs t) (OccursIn (more_ty t ts)) h l (height_at hs l) (height_at (raised h t hs) l) (λ d o. inl o) (raised_is h t hs l))
      (is_as (OccursIn ts) (OccursIn (more_ty t ts)) h l (height_at (raised h t hs) l) (height_at (raised_all h ts (raised h t hs)) l) (λ d o. inr o) (raised_all_is h ts (raised h t hs) l))
