-- Where parameters stand in types.
use Rattle.std.proofs.Common.{◌≡◌, ℕ, suc, ◌+◌, ◌<◌, ◌≤◌, ◌⊎◌, inl, inr, List, refl, sym, subst, arith}
use Rattle.th_type.specs.Types.{TypeExpr, int_ty, bool_ty, text_ty, array_ty, named_ty, param_ty, TypeExprs, no_ty, more_ty, arg_at, subst_ty, subst_tys, ty_height, tys_height}
use Rattle.th_inherits.specs.Occurrences.{Occurs, OccursIn}

-- a type is higher than all that stands in it is deep
mutual
  pub occurs_low : (t : TypeExpr) (l d : ℕ) → Occurs t l d → d < ty_height t
  occurs_low int_ty l d o = let e = o.1 in omega arith
  occurs_low bool_ty l d o = let e = o.1 in omega arith
  occurs_low text_ty l d o = let e = o.1 in omega arith
  occurs_low (array_ty t) l d o = let h = occurs_low t l o.0 o.1 in let e = o.2 in omega arith
  occurs_low (named_ty n ts) l d (inl o) = let e = o.1 in omega arith
  occurs_low (named_ty n ts) l d (inr o) = let h = occurs_in_low ts l o.0 o.1 in let e = o.2 in omega arith
  occurs_low (param_ty k) l d o = let e = o.1 in omega arith

  pub occurs_in_low : (ts : TypeExprs) (l d : ℕ) → OccursIn ts l d → d < tys_height ts
  occurs_in_low no_ty l d o = absurd o
  occurs_in_low (more_ty t ts) l d (inl o) = let h = occurs_low t l d o in omega arith
  occurs_in_low (more_ty t ts) l d (inr o) = let h = occurs_in_low ts l d o in omega arith

-- something stands as deep as the type is high
abbrev Deepest : TypeExpr → Type 0
Deepest t = (l : ℕ) × (d : ℕ) × Occurs t l d × (ty_height t ≡ suc d)

abbrev DeepestIn : TypeExprs → Type 0
DeepestIn ts = (tys_height ts ≡ 0) ⊎ ((l : ℕ) × (d : ℕ) × OccursIn ts l d × (tys_height ts ≡ suc d))

deepest_named : (n : ℕ) (ts : TypeExprs) → DeepestIn ts → Deepest (named_ty n ts)
deepest_named n ts (inl e) = (0, 0, inl (refl, refl), omega arith)
deepest_named n ts (inr h) = let e = h.3 in (h.0, suc h.1, inr (h.1, h.2, refl), omega arith)

deepest_more : (t : TypeExpr) (ts : TypeExprs) → Deepest t → DeepestIn ts → (tys_height ts ≤ ty_height t) ⊎ (ty_height t ≤ tys_height ts) → DeepestIn (more_ty t ts)
deepest_more t ts a b (inl h) = let e = a.3 in inr (a.0, a.1, inl a.2, omega arith)
deepest_more t ts a (inl b) (inr h) = let e = a.3 in inr (a.0, a.1, inl a.2, omega arith)
deepest_more t ts a (inr b) (inr h) = let e = b.3 in inr (b.0, b.1, inr b.2, omega arith)

ordered : (a b : ℕ) → (a ≤ b) ⊎ (b ≤ a)
ordered a b = grind arith

mutual
  pub deepest : (t : TypeExpr) → Deepest t
  deepest int_ty = (0, 0, (refl, refl), refl)
  deepest bool_ty = (0, 0, (refl, refl), refl)
  deepest text_ty = (0, 0, (refl, refl), refl)
  deepest (array_ty t) = let h = deepest t in let e = h.3 in (h.0, suc h.1, (h.1, h.2, refl), omega arith)
  deepest (named_ty n ts) = deepest_named n ts (deepest_in ts)
  deepest (param_ty k) = (suc k, 0, (refl, refl), refl)

  pub deepest_in : (ts : TypeExprs) → DeepestIn ts
  deepest_in no_ty = inl refl
  deepest_in (more_ty t ts) = deepest_more t ts (deepest t) (deepest_in ts) (ordered (tys_height ts) (ty_height t))

-- what stands in a type with arguments stands in the type, or in the argument of a parameter that stands there
abbrev pub Comes : (ℕ → ℕ → Type 0) → List TypeExpr → ℕ → ℕ → Type 0
Comes Stands args l d = ((l ≡ 0) × Stands 0 d) ⊎ ((k : ℕ) × (a : ℕ) × (b : ℕ) × Stands (suc k) a × Occurs (arg_at args k k) l b × (d ≡ a + b))

comes_deeper : (P Q : ℕ → ℕ → Type 0) (args : List TypeExpr) (l e d : ℕ) → ((k c : ℕ) → P k c → Q k (suc c)) → d ≡ suc e → Comes P args l e → Comes Q args l d
comes_deeper P Q args l e d f h (inl o) = inl (o.0, subst (λ c. Q 0 c) (sym h) (f 0 e o.1))
comes_deeper P Q args l e d f h (inr o) = let s = o.5 in inr (o.0, suc o.1, o.2, f (suc o.0) o.1 o.3, o.4, omega arith)

comes_as : (P Q : ℕ → ℕ → Type 0) (args : List TypeExpr) (l d : ℕ) → ((k c : ℕ) → P k c → Q k c) → Comes P args l d → Comes Q args l d
comes_as P Q args l d f (inl o) = inl (o.0, f 0 d o.1)
comes_as P Q args l d f (inr o) = inr (o.0, o.1, o.2, f (suc o.0) o.1 o.3, o.4, o.5)

mutual
  pub occurs_from : (args : List TypeExpr) (t : TypeExpr) (l d : ℕ) → Occurs (subst_ty args t) l d → Comes (Occurs t) args l d
  occurs_from args int_ty l d o = inl (o.0, (refl, o.1))
  occurs_from args bool_ty l d o = inl (o.0, (refl, o.1))
  occurs_from args text_ty l d o = inl (o.0, (refl, o.1))
  occurs_from args (array_ty t) l d o = comes_deeper (Occurs t) (Occurs (array_ty t)) args l o.0 d (λ k c p. (c, p, refl)) o.2 (occurs_from args t l o.0 o.1)
  occurs_from args (named_ty n ts) l d (inl o) = inl (o.0, inl (refl, o.1))
  occurs_from args (named_ty n ts) l d (inr o) = comes_deeper (OccursIn ts) (Occurs (named_ty n ts)) args l o.0 d (λ k c p. inr (c, p, refl)) o.2 (occurs_in_from args ts l o.0 o.1)
  occurs_from args (param_ty k) l d o = inr (k, 0, d, (refl, refl), o, omega arith)

  pub occurs_in_from : (args : List TypeExpr) (ts : TypeExprs) (l d : ℕ) → OccursIn (subst_tys args ts) l d → Comes (OccursIn ts) args l d
  occurs_in_from args no_ty l d o = absurd o
  occurs_in_from args (more_ty t ts) l d (inl o) = comes_as (Occurs t) (OccursIn (more_ty t ts)) args l d (λ k c p. inl p) (occurs_from args t l d o)
  occurs_in_from args (more_ty t ts) l d (inr o) = comes_as (OccursIn ts) (OccursIn (more_ty t ts)) args l d (λ k c p. inr p) (occurs_in_from args ts l d o)

-- what is no parameter stays where it stands
mutual
  pub occurs_fixed : (args : List TypeExpr) (t : TypeExpr) (d : ℕ) → Occurs t 0 d → Occurs (subst_ty args t) 0 d
  occurs_fixed args int_ty d o = o
  occurs_fixed args bool_ty d o = o
  occurs_fixed args text_ty d o = o
  occurs_fixed args (array_ty t) d o = (o.0, occurs_fixed args t o.0 o.1, o.2)
  occurs_fixed args (named_ty n ts) d (inl o) = inl o
  occurs_fixed args (named_ty n ts) d (inr o) = inr (o.0, occurs_in_fixed args ts o.0 o.1, o.2)
  occurs_fixed args (param_ty k) d o = let e = o.0 in absurd (omega arith)

  pub occurs_in_fixed : (args : List TypeExpr) (ts : TypeExprs) (d : ℕ) → OccursIn ts 0 d → OccursIn (subst_tys args ts) 0 d
  occurs_in_fixed args no_ty d o = absurd o
  occurs_in_fixed args (more_ty t ts) d (inl o) = inl (occurs_fixed args t d o)
  occurs_in_fixed args (more_ty t ts) d (inr o) = inr (occurs_in_fixed args ts d o)

given_at : (args : List TypeExpr) (k j l a b : ℕ) → suc k ≡ suc j → a ≡ 0 → Occurs (arg_at args k k) l b → Occurs (arg_at args j j) l (a + b)
given_at args k j l a b e z o =
    let h : k ≡ j = omega arith in
    let s : b ≡ a + b = omega arith in
    subst (λ c. Occurs (arg_at args j j) l c) s (subst (λ i. Occurs (arg_at args i i) l b) h o)

-- what stands in the argument of a parameter stands as much deeper as the parameter
mutual
  pub occurs_given : (args : List TypeExpr) (t : TypeExpr) (k l a b : ℕ) → Occurs t (suc k) a → Occurs (arg_at args k k) l b → Occurs (subst_ty args t) l (a + b)
  occurs_given args int_ty k l a b o p = let e = o.0 in absurd (omega arith)
  occurs_given args bool_ty k l a b o p = let e = o.0 in absurd (omega arith)
  occurs_given args text_ty k l a b o p = let e = o.0 in absurd (omega arith)
  occurs_given args (array_ty t) k l a b o p = let e = o.2 in (o.0 + b, occurs_given args t k l o.0 b o.1 p, omega arith)
  occurs_given args (named_ty n ts) k l a b (inl o) p = let e = o.0 in absurd (omega arith)
  occurs_given args (named_ty n ts) k l a b (inr o) p = let e = o.2 in inr (o.0 + b, occurs_in_given args ts k l o.0 b o.1 p, omega arith)
  occurs_given args (param_ty j) k l a b o p = given_at args k j l a b o.0 o.1 p

  pub occurs_in_given : (args : List TypeExpr) (ts : TypeExprs) (k l a b : ℕ) → OccursIn ts (suc k) a → Occurs (arg_at args k k) l b → OccursIn (subst_tys args ts) l (a + b)
  occurs_in_given args no_ty k l a b o p = absurd o
  occurs_in_given args (more_ty t ts) k l a b (inl o) p = inl (occurs_given args t k l a b o p)
  occurs_in_given args (more_ty t ts) k l a b (inr o) p = inr (occurs_in_given args ts k l a b o p)
