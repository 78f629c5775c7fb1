-- What a class reaches through the class that it inherits.
use Rattle.std.proofs.Common.{◌≡◌, ◌≢◌, ℕ, zero, suc, ◌+◌, ◌<◌, ◌≤◌, min, ◌⊎◌, inl, inr, List, [], ◌∷◌, refl, sym, subst, arith}
use Rattle.th_type.specs.Types.{TypeExpr, named_ty, TypeExprs, no_ty, more_ty, list_of, arg_at}
use Rattle.th_inherits.specs.Heights.{height_at, lifted, raised, raised_all, put, spread, carried, stepped}
use Rattle.th_inherits.specs.Occurrences.{Occurs}
use Rattle.th_inherits.proofs.Raising.{lifted_grows, lifted_has, lifted_is, raised_grows, raised_all_grows, raised_has, raised_is, IsOf}

-- where the type is there
pub put_there : (h : ℕ) (t : TypeExpr) (hs : List ℕ) → (h ≢ 0) → raised h t hs ≡ put h t hs
put_there zero t hs n = absurd (n refl)
put_there (suc h) t hs n = refl

put_grows : (h : ℕ) (t : TypeExpr) (hs : List ℕ) (l : ℕ) → height_at hs l ≤ height_at (put h t hs) l
put_grows zero t hs l = omega arith
put_grows (suc h) t hs l = raised_grows (suc h) t hs l

put_has : (h : ℕ) (t : TypeExpr) (hs : List ℕ) (l d : ℕ) → 0 < h → Occurs t l d → min (h + d) 601 ≤ height_at (put h t hs) l
put_has zero t hs l d p o = absurd (omega (arith, p))
put_has (suc h) t hs l d p o = raised_has (suc h) t hs l d o

-- a height is as before, or that of something that stands in the type, which is there
put_is : (h : ℕ) (t : TypeExpr) (hs : List ℕ) (l : ℕ) → (height_at (put h t hs) l ≡ height_at hs l) ⊎ ((0 < h) × ((d : ℕ) × Occurs t l d × (height_at (put h t hs) l ≤ h + d)))
put_is zero t hs l = inl refl
put_is (suc h) t hs l = elim (raised_is (suc h) t hs l) [ inl e ↦ inl e | inr o ↦ inr (omega arith, o) ]

pub spread_grows : (k : ℕ) (ts : TypeExprs) (vs hs : List ℕ) (l : ℕ) → height_at hs l ≤ height_at (spread k ts vs hs) l
spread_grows k ts [] hs l = omega arith
spread_grows k no_ty (v ∷ vs) hs l =
    let a = lifted_grows (k + 1) v hs l in
    let b = spread_grows (k + 1) no_ty vs (lifted (k + 1) v hs) l in
    omega (arith, a, b)
spread_grows k (more_ty t ts) (v ∷ vs) hs l =
    let a = put_grows v t hs l in
    let b = spread_grows (k + 1) ts vs (put v t hs) l in
    omega (arith, a, b)

-- what stands in the argument of the parameter p, which has the place j among the heights
pub spread_has : (k j p : ℕ) (ts : TypeExprs) (vs hs : List ℕ) (l d : ℕ) → p ≡ k + j → 0 < height_at vs j → Occurs (arg_at (list_of ts) j p) l d → min (height_at vs j + d) 601 ≤ height_at (spread k ts vs hs) l
spread_has k j p ts [] hs l d e h o = absurd (omega (arith, h))
spread_has k zero p no_ty (v ∷ vs) hs l d e h o =
    let s : l ≡ k + 1 = let x = o.0 in omega (arith, e, x) in
    let z = o.1 in
    let a : v ≤ height_at (lifted (k + 1) v hs) l = subst (λ i. v ≤ height_at (lifted (k + 1) v hs) i) (sym s) (lifted_has (k + 1) v hs) in
    let b = spread_grows (k + 1) no_ty vs (lifted (k + 1) v hs) l in
    omega (arith, z, a, b)
spread_has k (suc j) p no_ty (v ∷ vs) hs l d e h o = spread_has (k + 1) j p no_ty vs (lifted (k + 1) v hs) l d (omega (arith, e)) h o
spread_has k zero p (more_ty t ts) (v ∷ vs) hs l d e h o =
    let a = put_has v t hs l d h o in
    let b = spread_grows (k + 1) ts vs (put v t hs) l in
    omega (arith, a, b)
spread_has k (suc j) p (more_ty t ts) (v ∷ vs) hs l d e h o = spread_has (k + 1) j p ts vs (put v t hs) l d (omega (arith, e)) h o

-- a height is that of something that stands in the argument of a parameter
abbrev pub FromParam : ℕ → TypeExprs → List ℕ → ℕ → ℕ → Type 0
FromParam k ts vs l new = (j : ℕ) × (p : ℕ) × (d : ℕ) × (p ≡ k + j) × (0 < height_at vs j) × Occurs (arg_at (list_of ts) j p) l d × (new ≤ height_at vs j + d)

next_param : (k : ℕ) (ts us : TypeExprs) (v : ℕ) (vs : List ℕ) (l new : ℕ) → ((j p d : ℕ) → Occurs (arg_at (list_of us) j p) l d → Occurs (arg_at (list_of ts) (suc j) p) l d) → FromParam (k + 1) us vs l new → FromParam k ts (v ∷ vs) l new
next_param k ts us v vs l new f o = let e = o.3 in (suc o.0, o.1, o.2, omega (arith, e), o.4, f o.0 o.1 o.2 o.5, o.6)

first_kept : (k v : ℕ) (vs : List ℕ) (l old mid : ℕ) → old ≤ mid → (mid ≡ old) ⊎ ((l ≡ k + 1) × (mid ≡ v)) → (mid ≡ old) ⊎ FromParam k no_ty (v ∷ vs) l mid
first_kept k v vs l old mid g (inl e) = inl e
first_kept k zero vs l old mid g (inr e) = let s = e.1 in inl (omega (arith, g, s))
first_kept k (suc v) vs l old mid g (inr e) = let s = e.0 in let b = e.1 in inr (0, k, 0, omega arith, omega arith, (omega (arith, s), refl), omega (arith, b))

first_put : (k v : ℕ) (t : TypeExpr) (ts : TypeExprs) (vs : List ℕ) (l old mid : ℕ) → (mid ≡ old) ⊎ ((0 < v) × ((d : ℕ) × Occurs t l d × (mid ≤ v + d))) → (mid ≡ old) ⊎ FromParam k (more_ty t ts) (v ∷ vs) l mid
first_put k v t ts vs l old mid (inl e) = inl e
first_put k v t ts vs l old mid (inr o) = inr (0, k, o.1.0, omega arith, o.0, o.1.1, o.1.2)

from_then : (k : ℕ) (ts us : TypeExprs) (v : ℕ) (vs : List ℕ) (l old mid new : ℕ) → ((j p d : ℕ) → Occurs (arg_at (list_of us) j p) l d → Occurs (arg_at (list_of ts) (suc j) p) l d) → (mid ≡ old) ⊎ FromParam k ts (v ∷ vs) l mid → (new ≡ mid) ⊎ FromParam (k + 1) us vs l new → (new ≡ old) ⊎ FromParam k ts (v ∷ vs) l new
from_then k ts us v vs l old mid new f a (inl e) = subst (λ x. (x ≡ old) ⊎ FromParam k ts (v ∷ vs) l x) (sym e) a
from_then k ts us v vs l old mid new f a (inr o) = inr (next_param k ts us v vs l new f o)

pub spread_is : (k : ℕ) (ts : TypeExprs) (vs hs : List ℕ) (l : ℕ) → (height_at (spread k ts vs hs) l ≡ height_at hs l) ⊎ FromParam k ts vs l (height_at (spread k ts vs hs) l)
spread_is k ts [] hs l = inl refl
spread_is k no_ty (v ∷ vs) hs l =
    from_then k no_ty no_ty v vs l (height_at hs l) (height_at (lifted (k + 1) v hs) l) (height_at (spread (k + 1) no_ty vs (lifted (k + 1) v hs)) l) (λ j p d o. o)
    (first_kept k v vs l (height_at hs l) (height_at (lifted (k + 1) v hs) l) (lifted_grows (k + 1) v hs l) (lifted_is (k + 1) v hs l))
    (spread_is (k + 1) no_ty vs (lifted (k + 1) v hs) l)
spread_is k (more_ty t ts) (v ∷ vs) hs l =
    from_then k (more_ty t ts) ts v vs l (height_at hs l) (height_at (put v t hs) l) (height_at (spread (k + 1) ts vs (put v t hs)) l) (λ j p d o. o)
    (first_put k v t ts vs l (height_at hs l) (height_at (put v t hs) l) (put_is v t hs l))
    (spread_is (k + 1) ts vs (put v t hs) l)

pub stepped_grows : (vs : List ℕ) (ts : TypeExprs) (hs : List ℕ) (l : ℕ) → height_at hs l ≤ height_at (stepped vs ts hs) l
stepped_grows [] ts hs l =
    let a = lifted_grows 0 1 hs l in
    let b = raised_all_grows 2 ts (lifted 0 1 hs) l in
    omega (arith, a, b)
stepped_grows (v ∷ vs) ts hs l =
    let a = lifted_grows 0 1 hs l in
    let b = raised_all_grows 2 ts (lifted 0 1 hs) l in
    let c = lifted_grows 0 v (raised_all 2 ts (lifted 0 1 hs)) l in
    let d = spread_grows 0 ts vs (lifted 0 v (raised_all 2 ts (lifted 0 1 hs))) l in
    omega (arith, a, b, c, d)

carried_grows : (vs : List ℕ) (ts : TypeExprs) (hs : List ℕ) (l : ℕ) → height_at hs l ≤ height_at (carried vs ts hs) l
carried_grows [] ts hs l = omega arith
carried_grows (v ∷ vs) ts hs l =
    let a = lifted_grows 0 v hs l in
    let b = spread_grows 0 ts vs (lifted 0 v hs) l in
    omega (arith, a, b)

-- what stands in the inherited class with its arguments
pub stepped_base : (vs : List ℕ) (n : ℕ) (ts : TypeExprs) (hs : List ℕ) (l d : ℕ) → Occurs (named_ty n ts) l d → min (1 + d) 601 ≤ height_at (stepped vs ts hs) l
stepped_base vs n ts hs l d o =
    let a : min (1 + d) 601 ≤ height_at (raised_all 2 ts (lifted 0 1 hs)) l = raised_has 1 (named_ty n ts) hs l d o in
    let b = carried_grows vs ts (raised_all 2 ts (lifted 0 1 hs)) l in
    omega (arith, a, b)

-- what is no parameter in what that class reaches
pub stepped_fixed : (vs : List ℕ) (ts : TypeExprs) (hs : List ℕ) → height_at vs 0 ≤ height_at (stepped vs ts hs) 0
stepped_fixed [] ts hs = omega arith
stepped_fixed (v ∷ vs) ts hs =
    let a = lifted_has 0 v (raised_all 2 ts (lifted 0 1 hs)) in
    let b = spread_grows 0 ts vs (lifted 0 v (raised_all 2 ts (lifted 0 1 hs))) 0 in
    omega (arith, a, b)

-- what stands in the arguments of its parameters
pub stepped_param : (vs : List ℕ) (ts : TypeExprs) (hs : List ℕ) (k l d : ℕ) → 0 < height_at vs (suc k) → Occurs (arg_at (list_of ts) k k) l d → min (height_at vs (suc k) + d) 601 ≤ height_at (stepped vs ts hs) l
stepped_param [] ts hs k l d h o = absurd (omega (arith, h))
stepped_param (v ∷ vs) ts hs k l d h o = spread_has 0 k k ts vs (lifted 0 v (raised_all 2 ts (lifted 0 1 hs))) l d (omega arith) h o

-- where a height comes from
pub data Origin (vs : List ℕ) (n : ℕ) (ts : TypeExprs) (l old new : ℕ) : Type 0 where
  before : new ≡ old → Origin vs n ts l old new
  base : (d : ℕ) → Occurs (named_ty n ts) l d → new ≤ 1 + d → Origin vs n ts l old new
  fixed : l ≡ 0 → new ≡ height_at vs 0 → Origin vs n ts l old new
  param : (k d : ℕ) → 0 < height_at vs (suc k) → Occurs (arg_at (list_of ts) k k) l d → new ≤ height_at vs (suc k) + d → Origin vs n ts l old new

of_base : (vs : List ℕ) (n : ℕ) (ts : TypeExprs) (l old new : ℕ) → IsOf (Occurs (named_ty n ts)) 1 l old new → Origin vs n ts l old new
of_base vs n ts l old new (inl e) = before e
of_base vs n ts l old new (inr o) = base o.0 o.1 o.2

of_fixed : (v : ℕ) (vs : List ℕ) (n : ℕ) (ts : TypeExprs) (l old mid new : ℕ) → Origin (v ∷ vs) n ts l old mid → (new ≡ mid) ⊎ ((l ≡ 0) × (new ≡ v)) → Origin (v ∷ vs) n ts l old new
of_fixed v vs n ts l old mid new o (inl e) = subst (λ x. Origin (v ∷ vs) n ts l old x) (sym e) o
of_fixed v vs n ts l old mid new o (inr e) = fixed e.0 e.1

at_place : (ts : TypeExprs) (j p l d : ℕ) → p ≡ 0 + j → Occurs (arg_at (list_of ts) j p) l d → Occurs (arg_at (list_of ts) j j) l d
at_place ts j p l d e o = let s : p ≡ j = omega (arith, e) in subst (λ q. Occurs (arg_at (list_of ts) j q) l d) s o

of_param : (v : ℕ) (vs : List ℕ) (n : ℕ) (ts : TypeExprs) (l old mid new : ℕ) → Origin (v ∷ vs) n ts l old mid → (new ≡ mid) ⊎ FromParam 0 ts vs l new → Origin (v ∷ vs) n ts l old new
of_param v vs n ts l old mid new o (inl e) = subst (λ x. Origin (v ∷ vs) n ts l old x) (sym e) o
of_param v vs n ts l old mid new o (inr q) = param q.0 q.2 q.4 (at_place ts q.0 q.1 l q.2 q.3 q.5) q.6

pub stepped_is : (vs : List ℕ) (n : ℕ) (ts : TypeExprs) (hs : List ℕ) (l : ℕ) → Origin vs n ts l (height_at hs l) (height_at (stepped vs ts hs) l)
stepped_is [] n ts hs l = of_base [] n ts l (height_at hs l) (height_at (raised_all 2 ts (lifted 0 1 hs)) l) (raised_is 1 (named_ty n ts) hs l)
stepped_is (v ∷ vs) n ts hs l =
    let h1 = raised_all 2 ts (lifted 0 1 hs) in
    let h2 = lifted 0 v h1 in
    of_param v vs n ts l (height_at hs l) (height_at h2 l) (height_at (spread 0 ts vs h2) l)
    (of_fixed v vs n ts l (height_at hs l) (height_at h1 l) (height_at h2 l)
    (of_base (v ∷ vs) n ts l (height_at hs l) (height_at h1 l) (raised_is 1 (named_ty n ts) hs l))
    (lifted_is 0 v h1 l))
    (spread_is 0 ts vs h2 l)
