-- Lists of types that are kept once each.
use Rattle.std.proofs.Common.{◌≡◌, ◌∙◌, ℕ, zero, suc, ◌+◌, ◌<◌, ◌≤◌, max, Bool, true, false, nat_eq, ◌&&◌, cond, List, [], ◌∷◌, ◌++◌, length, slice_get, unwrap_or, Option, Some, None, refl, ap, sym, subst, ◌⊎◌, inl, inr, arith, append_assoc, append-nil, if◌then◌else◌}
use Rattle.std.proofs.lemmas.Bool.Decides.{nat_tests}
use Rattle.std.specs.Map.{lookup}
use Rattle.indexmap.specs.IndexMap.{insert_entry}
use Rattle.th_type.specs.declared.pool.Shape.{Shape}
use Rattle.th_type.specs.declared.pool.Shape.TheVariants.{Int, Bool as BoolShape, Text, Array, Named, Param}
use Rattle.th_type.specs.declared.pool.Cell.{Cell}
use Rattle.th_type.specs.declared.pool.Cell.TheVariants.{Empty, More}
use Rattle.th_type.specs.declared.pool.Kept.{Kept}
use Rattle.th_type.specs.Types.{TypeExpr, TypeExprs, array_ty, named_ty, param_ty, no_ty, more_ty, list_of, arg_at, ty_height, tys_height, same_tys}
use Rattle.th_type.specs.Pool.{same_shape, same_cell, tys_at, first_of, shape_ty, shapes_before, shapes_tys, cell_tys, pooled_onto, pooled, IsKept, IsNumbered, ShapeFits, AllFit, CellFits, Grows, KeptAt, EachOnce, PoolRight}
use Rattle.th_type.proofs.Members.{place_in}
use Rattle.th_type.proofs.Same.{both, sames_self, sames_equal}

-- what stands at a place of a list still stands there when the list has more at its end
pub get_front : {A : Type 0} (xs ys : List A) (k : ℕ) (x : A) → slice_get xs k ≡ Some x → slice_get (xs ++ ys) k ≡ Some x
get_front [] ys k x h = cc
get_front (z ∷ xs) ys zero x h = h
get_front (z ∷ xs) ys (suc k) x h = get_front xs ys k x h

pub get_end : {A : Type 0} (xs : List A) (y : A) → slice_get (xs ++ y ∷ []) (length xs) ≡ Some y
get_end [] y = refl
get_end (x ∷ xs) y = get_end xs y

pub get_cases : {A : Type 0} (xs : List A) (y : A) (k : ℕ) (x : A) → slice_get (xs ++ y ∷ []) k ≡ Some x → (slice_get xs k ≡ Some x) ⊎ ((k ≡ length xs) × (x ≡ y))
get_cases [] y zero x h = inr (refl, cc)
get_cases [] y (suc k) x h = cc
get_cases (z ∷ xs) y zero x h = inl h
get_cases (z ∷ xs) y (suc k) x h = elim (get_cases xs y k x h) [ inl e ↦ inl e | inr p ↦ inr (ap suc p.0, p.1) ]

length_more : {A : Type 0} (xs : List A) (y : A) → length (xs ++ y ∷ []) ≡ length xs + 1
length_more [] y = refl
length_more (x ∷ xs) y = let l = length_more xs y in omega (arith, l)

-- growth
pub grows_self : (ts : List TypeExprs) → Grows ts ts
grows_self ts = ([], sym (append-nil ts))

pub grows_on : (ts us vs : List TypeExprs) → Grows ts us → Grows us vs → Grows ts vs
grows_on ts us vs (m, e) (n, f) = (m ++ n, f ∙ ap (λ (x : List TypeExprs). x ++ n) e ∙ append_assoc ts m n)

pub grown_at : (ts us : List TypeExprs) (k : ℕ) (x : TypeExprs) → Grows ts us → slice_get ts k ≡ Some x → slice_get us k ≡ Some x
grown_at ts us k x (m, e) h = subst (λ vs. slice_get vs k ≡ Some x) (sym e) (get_front ts m k x h)

pub at_is : (ts : List TypeExprs) (k : ℕ) (us : TypeExprs) → slice_get ts k ≡ Some us → tys_at ts k ≡ us
at_is ts k us h = ap (λ o. unwrap_or o no_ty) h

pub at_grown : (ts us : List TypeExprs) (k : ℕ) → Grows ts us → IsKept ts k → tys_at us k ≡ tys_at ts k
at_grown ts us k g (x, h) = at_is us k x (grown_at ts us k x g h) ∙ sym (at_is ts k x h)

pub kept_grown : (ts us : List TypeExprs) (k : ℕ) → Grows ts us → IsKept ts k → IsKept us k
kept_grown ts us k g (x, h) = (x, grown_at ts us k x g h)

pub shape_fits_grown : (ts us : List TypeExprs) (s : Shape) → Grows ts us → ShapeFits ts s → ShapeFits us s
shape_fits_grown ts us Int g f = f
shape_fits_grown ts us BoolShape g f = f
shape_fits_grown ts us Text g f = f
shape_fits_grown ts us (Array k) g (t, h) = (t, grown_at ts us k (more_ty t no_ty) g h)
shape_fits_grown ts us (Named n k) g f = kept_grown ts us k g f
shape_fits_grown ts us (Param k) g f = f

pub shape_grown : (ts us : List TypeExprs) (s : Shape) → Grows ts us → ShapeFits ts s → shape_ty us s ≡ shape_ty ts s
shape_grown ts us Int g f = refl
shape_grown ts us BoolShape g f = refl
shape_grown ts us Text g f = refl
shape_grown ts us (Array k) g (t, h) = ap (λ x. array_ty (first_of x)) (at_grown ts us k g (more_ty t no_ty, h))
shape_grown ts us (Named n k) g f = ap (named_ty n) (at_grown ts us k g f)
shape_grown ts us (Param k) g f = refl

pub all_fit_grown : (ts us : List TypeExprs) (ss : List Shape) → Grows ts us → AllFit ts ss → AllFit us ss
all_fit_grown ts us [] g f = f
all_fit_grown ts us (s ∷ ss) g f = (shape_fits_grown ts us s g f.0, all_fit_grown ts us ss g f.1)

pub shapes_grown : (ts us : List TypeExprs) (ss : List Shape) (xs : TypeExprs) → Grows ts us → AllFit ts ss → shapes_before us ss xs ≡ shapes_before ts ss xs
shapes_grown ts us [] xs g f = refl
shapes_grown ts us (s ∷ ss) xs g f = rw (shape_grown ts us s g f.0, shapes_grown ts us ss xs g f.1) refl

pub cell_fits_grown : (ts us : List TypeExprs) (c : Cell) → Grows ts us → CellFits ts c → CellFits us c
cell_fits_grown ts us Empty g f = f
cell_fits_grown ts us (More s k) g f = (shape_fits_grown ts us s g f.0, kept_grown ts us k g f.1)

pub cell_grown : (ts us : List TypeExprs) (c : Cell) → Grows ts us → CellFits ts c → cell_tys us c ≡ cell_tys ts c
cell_grown ts us Empty g f = refl
cell_grown ts us (More s k) g f = rw (shape_grown ts us s g f.0, at_grown ts us k g f.1) refl

-- the lists of a pool with a further cell
onto_more : (ts : List TypeExprs) (es fs : List (Cell × Kept)) → pooled_onto ts (es ++ fs) ≡ pooled_onto (pooled_onto ts es) fs
onto_more ts [] fs = refl
onto_more ts (e ∷ es) fs = onto_more (ts ++ cell_tys ts e.0 ∷ []) es fs

pub pooled_more : (es : List (Cell × Kept)) (e : Cell × Kept) → pooled (es ++ e ∷ []) ≡ pooled es ++ cell_tys (pooled es) e.0 ∷ []
pooled_more es e = onto_more [] es (e ∷ [])

onto_length : (ts : List TypeExprs) (es : List (Cell × Kept)) → length (pooled_onto ts es) ≡ length ts + length es
onto_length ts [] = omega arith
onto_length ts (e ∷ es) = let a = onto_length (ts ++ cell_tys ts e.0 ∷ []) es in let b = length_more ts (cell_tys ts e.0) in omega (arith, a, b)

pub pooled_length : (es : List (Cell × Kept)) → length (pooled es) ≡ length es
pooled_length es = let a = onto_length [] es in omega (arith, a)

pub pooled_grows : (es : List (Cell × Kept)) (e : Cell × Kept) → Grows (pooled es) (pooled (es ++ e ∷ []))
pooled_grows es e = (cell_tys (pooled es) e.0 ∷ [], pooled_more es e)

-- cells with equal lists are equal
array_one : (ts : List TypeExprs) (j k : ℕ) (t u : TypeExpr) → EachOnce ts → slice_get ts j ≡ Some (more_ty t no_ty) → slice_get ts k ≡ Some (more_ty u no_ty) → array_ty (first_of (tys_at ts j)) ≡ array_ty (first_of (tys_at ts k)) → j ≡ k
array_one ts j k t u o g h e =
    let a : first_of (tys_at ts j) ≡ t = ap first_of (at_is ts j (more_ty t no_ty) g) in
    let b : first_of (tys_at ts k) ≡ u = ap first_of (at_is ts k (more_ty u no_ty) h) in
    let c : t ≡ u = cc in
    o j k (more_ty t no_ty) g (subst (λ x. slice_get ts k ≡ Some (more_ty x no_ty)) (sym c) h)

kept_one : (ts : List TypeExprs) (j k : ℕ) → EachOnce ts → IsKept ts j → IsKept ts k → tys_at ts j ≡ tys_at ts k → j ≡ k
kept_one ts j k o (x, g) (y, h) e =
    let c : x ≡ y = sym (at_is ts j x g) ∙ e ∙ at_is ts k y h in
    o j k x g (subst (λ x. slice_get ts k ≡ Some x) (sym c) h)

shape_one : (ts : List TypeExprs) (s u : Shape) → EachOnce ts → ShapeFits ts s → ShapeFits ts u → shape_ty ts s ≡ shape_ty ts u → s ≡ u
shape_one ts Int Int o f g e = refl
shape_one ts BoolShape BoolShape o f g e = refl
shape_one ts Text Text o f g e = refl
shape_one ts (Array j) (Array k) o f g e = ap Array (array_one ts j k f.0 g.0 o f.1 g.1 e)
shape_one ts (Named n j) (Named m k) o f g e =
    let a : n ≡ m = cc in
    let b : tys_at ts j ≡ tys_at ts k = cc in
    let c : j ≡ k = kept_one ts j k o f g b in
    rw (a, c) refl
shape_one ts (Param j) (Param k) o f g e = let a : j ≡ k = cc in ap Param a
shape_one ts _ _ o f g e = cc

pub cell_one : (ts : List TypeExprs) (c d : Cell) → EachOnce ts → CellFits ts c → CellFits ts d → cell_tys ts c ≡ cell_tys ts d → c ≡ d
cell_one ts Empty Empty o f g e = refl
cell_one ts Empty (More s k) o f g e = cc
cell_one ts (More s k) Empty o f g e = cc
cell_one ts (More s j) (More u k) o f g e =
    let a : shape_ty ts s ≡ shape_ty ts u = cc in
    let b : tys_at ts j ≡ tys_at ts k = cc in
    let c : s ≡ u = shape_one ts s u o f.0 g.0 a in
    let d : j ≡ k = kept_one ts j k o f.1 g.1 b in
    rw (c, d) refl

-- the test for equal cells decides whether they are equal
shape_self : (s : Shape) → same_shape s s ≡ true
shape_self Int = refl
shape_self BoolShape = refl
shape_self Text = refl
shape_self (Array k) = grind (arith, nat_tests)
shape_self (Named n k) = grind (arith, nat_tests)
shape_self (Param k) = grind (arith, nat_tests)

cell_self : (c : Cell) → same_cell c c ≡ true
cell_self Empty = refl
cell_self (More s k) = grind (arith, nat_tests, shape_self s)

shape_equal : (s u : Shape) → same_shape s u ≡ true → s ≡ u
shape_equal Int Int h = refl
shape_equal BoolShape BoolShape h = refl
shape_equal Text Text h = refl
shape_equal (Array j) (Array k) h = let e : j ≡ k = grind (arith, nat_tests) in ap Array e
shape_equal (Named n j) (Named m k) h =
    let p = both (nat_eq n m) (nat_eq j k) h in
    let a : n ≡ m = grind (arith, nat_tests, p.0) in
    let b : j ≡ k = grind (arith, nat_tests, p.1) in
    rw (a, b) refl
shape_equal (Param j) (Param k) h = let e : j ≡ k = grind (arith, nat_tests) in ap Param e
shape_equal _ _ h = cc

pub cell_equal : (c d : Cell) → same_cell c d ≡ true → c ≡ d
cell_equal Empty Empty h = refl
cell_equal (More s j) (More u k) h =
    let p = both (same_shape s u) (nat_eq j k) h in
    let b : j ≡ k = grind (arith, nat_tests, p.1) in
    rw (shape_equal s u p.0, b) refl
cell_equal _ _ h = cc

-- where a look-up finds something, there is a cell
found_if : (c : Cell) (v : Kept) (e : Cell × Kept) (es : List (Cell × Kept)) (b : Bool) → same_cell c e.0 ≡ b → (lookup (same_cell c) es ≡ Some v → (k : ℕ) × (slice_get es k ≡ Some (c, v)))
    → cond b (Some e.1) (lookup (same_cell c) es) ≡ Some v → (k : ℕ) × (slice_get (e ∷ es) k ≡ Some (c, v))
found_if c v e es true s r h =
    let d : c ≡ e.0 = cell_equal c e.0 s in
    let f : e.1 ≡ v = cc in
    (zero, ap (λ (x : Cell). Some (x, e.1)) (sym d) ∙ ap (λ (x : Kept). Some (c, x)) f)
found_if c v e es false s r h = let p = r h in (suc p.0, p.1)

pub found_cell : (c : Cell) (v : Kept) (es : List (Cell × Kept)) → lookup (same_cell c) es ≡ Some v → (k : ℕ) × (slice_get es k ≡ Some (c, v))
found_cell c v [] h = cc
found_cell c v (e ∷ es) h = found_if c v e es (same_cell c e.0) refl (found_cell c v es) h

-- where it finds nothing, there is none
absent_if : (e : Cell × Kept) (x : Cell × Kept) (es : List (Cell × Kept)) (k : ℕ) (b : Bool) → same_cell e.0 x.0 ≡ b → ((k : ℕ) → lookup (same_cell e.0) es ≡ None → slice_get es k ≡ Some e → ⊥)
    → cond b (Some x.1) (lookup (same_cell e.0) es) ≡ None → slice_get (x ∷ es) k ≡ Some e → ⊥
absent_if e x es k true s r h g = cc
absent_if e x es zero false s r h g = let a : x ≡ e = cc in let t = cell_self e.0 in let u : same_cell e.0 x.0 ≡ true = subst (λ (y : Cell × Kept). same_cell e.0 y.0 ≡ true) (sym a) t in cc
absent_if e x es (suc k) false s r h g = r k h g

absent_cell : (e : Cell × Kept) (es : List (Cell × Kept)) (k : ℕ) → lookup (same_cell e.0) es ≡ None → slice_get es k ≡ Some e → ⊥
absent_cell e [] k h g = cc
absent_cell e (x ∷ es) k h g = absent_if e x es k (same_cell e.0 x.0) refl (absent_cell e es) h g

-- no list of the pool is that of a cell that is not there
no_list : (es : List (Cell × Kept)) (c : Cell) → PoolRight es → CellFits (pooled es) c → lookup (same_cell c) es ≡ None → (k : ℕ) → slice_get (pooled es) k ≡ Some (cell_tys (pooled es) c) → ⊥
no_list es c r f h k g =
    let w : k < length es = subst (λ n. k < n) (pooled_length es) (in_length (pooled es) k (cell_tys (pooled es) c) g) in
    let p = place_in k es w in
    let a = r.kept k p.0 p.1 in
    let q : cell_tys (pooled es) p.0.0 ≡ cell_tys (pooled es) c = some_one (sym a.is ∙ g) in
    let s : p.0.0 ≡ c = cell_one (pooled es) p.0.0 c r.once a.fits f q in
    absent_cell p.0 es k (subst (λ (d : Cell). lookup (same_cell d) es ≡ None) (sym s) h) p.1
  where
    in_length : (xs : List TypeExprs) (k : ℕ) (x : TypeExprs) → slice_get xs k ≡ Some x → k < length xs
    in_length [] k x h = cc
    in_length (y ∷ ys) zero x h = omega arith
    in_length (y ∷ ys) (suc k) x h = let l = in_length ys k x h in omega (arith, l)

    some_one : {x y : TypeExprs} → Some x ≡ Some y → x ≡ y
    some_one e = cc

-- the number of a cell that was found
pub number_found : (es : List (Cell × Kept)) (c : Cell) (v : Kept) → PoolRight es → lookup (same_cell c) es ≡ Some v → IsNumbered (pooled es) v.number (cell_tys (pooled es) c)
number_found es c v r h =
    let p = found_cell c v es h in
    let a = r.kept p.0 (c, v) p.1 in
    (subst (λ k. slice_get (pooled es) k ≡ Some (cell_tys (pooled es) c)) (sym a.number) a.is, subst (λ n. n ≤ 599) a.height a.low)

-- a cell is put at the end
pub number_put : (es fs : List (Cell × Kept)) (c : Cell) (v : Kept) → fs ≡ es ++ (c, v) ∷ [] → v.number ≡ length es → v.height ≡ tys_height (cell_tys (pooled es) c) → v.height ≤ 599 → IsNumbered (pooled fs) v.number (cell_tys (pooled es) c)
number_put es fs c v e n t l =
    let m : v.number ≡ length (pooled es) = n ∙ sym (pooled_length es) in
    (rw (ap pooled e ∙ pooled_more es (c, v), m) (get_end (pooled es) (cell_tys (pooled es) c)), subst (λ h. h ≤ 599) t l)

pub put_grows : (es fs : List (Cell × Kept)) (c : Cell) (v : Kept) → fs ≡ es ++ (c, v) ∷ [] → Grows (pooled es) (pooled fs)
put_grows es fs c v e = subst (λ (gs : List (Cell × Kept)). Grows (pooled es) (pooled gs)) (sym e) (pooled_grows es (c, v))

-- the pool stays right
pub pool_put : (es fs : List (Cell × Kept)) (c : Cell) (v : Kept) → fs ≡ es ++ (c, v) ∷ [] → PoolRight es → CellFits (pooled es) c → lookup (same_cell c) es ≡ None → v.number ≡ length es → v.height ≡ tys_height (cell_tys (pooled es) c) → v.height ≤ 599 → PoolRight fs
pool_put es fs c v e r f h n t l = subst PoolRight (sym e) (record { kept = kept_by; once = once_by }) where
  us : List TypeExprs
  us = pooled (es ++ (c, v) ∷ [])

  g : Grows (pooled es) us
  g = pooled_grows es (c, v)

  same : cell_tys us c ≡ cell_tys (pooled es) c
  same = cell_grown (pooled es) us c g f

  new_at : slice_get us (length es) ≡ Some (cell_tys (pooled es) c)
  new_at = rw (pooled_more es (c, v), sym (pooled_length es)) (get_end (pooled es) (cell_tys (pooled es) c))

  old_kept : (k : ℕ) (x : Cell × Kept) → KeptAt (pooled es) k x → KeptAt us k x
  old_kept k x a =
      let s : cell_tys us x.0 ≡ cell_tys (pooled es) x.0 = cell_grown (pooled es) us x.0 g a.fits in
      record {
        fits = cell_fits_grown (pooled es) us x.0 g a.fits;
        is = grown_at (pooled es) us k (cell_tys (pooled es) x.0) g a.is ∙ ap Some (sym s);
        number = a.number;
        height = a.height ∙ ap tys_height (sym s);
        low = a.low;
      }

  new_kept : KeptAt us (length es) (c, v)
  new_kept = record {
    fits = cell_fits_grown (pooled es) us c g f;
    is = new_at ∙ ap Some (sym same);
    number = n;
    height = t ∙ ap tys_height (sym same);
    low = l;
  }

  kept_by : (k : ℕ) (x : Cell × Kept) → slice_get (es ++ (c, v) ∷ []) k ≡ Some x → KeptAt us k x
  kept_by k x i = elim (get_cases es (c, v) k x i) [
    | inl a ↦ old_kept k x (r.kept k x a)
    | inr p ↦ subst (λ (y : Cell × Kept). KeptAt us k y) (sym p.1) (subst (λ k. KeptAt us k (c, v)) (sym p.0) new_kept)
  ]

  cases : (k : ℕ) (x : TypeExprs) → slice_get us k ≡ Some x → (slice_get (pooled es) k ≡ Some x) ⊎ ((k ≡ length (pooled es)) × (x ≡ cell_tys (pooled es) c))
  cases k x i = get_cases (pooled es) (cell_tys (pooled es) c) k x (subst (λ vs. slice_get vs k ≡ Some x) (pooled_more es (c, v)) i)

  none : (k : ℕ) (x : TypeExprs) → slice_get (pooled es) k ≡ Some x → x ≡ cell_tys (pooled es) c → ⊥
  none k x a b = no_list es c r f h k (a ∙ ap Some b)

  once_by : EachOnce us
  once_by j k x a b = elim (cases j x a) [
    | inl p ↦ elim (cases k x b) [ inl q ↦ r.once j k x p q | inr q ↦ absurd (none j x p q.1) ]
    | inr p ↦ elim (cases k x b) [ inl q ↦ absurd (none k x q p.1) | inr q ↦ p.0 ∙ sym q.0 ]
  ]

pub pool_none : PoolRight []
pool_none = record { kept = λ k e h. cc; once = λ j k us h. cc }

put_if : (eq : Cell → Cell → Bool) (c : Cell) (v : Kept) (e : Cell × Kept) (es : List (Cell × Kept)) (b : Bool) → (lookup (same_cell c) es ≡ None → insert_entry eq es c v ≡ es ++ (c, v) ∷ [])
    → cond b (Some e.1) (lookup (same_cell c) es) ≡ None → (if b then (e.0, v) ∷ es else e ∷ insert_entry eq es c v) ≡ e ∷ (es ++ (c, v) ∷ [])
put_if eq c v e es true r h = cc
put_if eq c v e es false r h = ap (λ (xs : List (Cell × Kept)). e ∷ xs) (r h)

-- a cell that is not there goes last
pub put_absent : (eq : Cell → Cell → Bool) → ((a b : Cell) → eq a b ≡ same_cell a b) → (c : Cell) (v : Kept) (es : List (Cell × Kept)) → lookup (same_cell c) es ≡ None → insert_entry eq es c v ≡ es ++ (c, v) ∷ []
put_absent eq f c v [] h = refl
put_absent eq f c v (e ∷ es) h = put_if eq c v e es (eq c e.0) (put_absent eq f c v es) (subst (λ b. cond b (Some e.1) (lookup (same_cell c) es) ≡ None) (sym (f c e.0)) h)

-- the cell at a place
pub cell_at : (es : List (Cell × Kept)) (k : ℕ) (c : Cell) (v : Kept) → PoolRight es → slice_get es k ≡ Some (c, v) → (cell_tys (pooled es) c ≡ tys_at (pooled es) k) × CellFits (pooled es) c
cell_at es k c v r h = let a = r.kept k (c, v) h in (sym (at_is (pooled es) k (cell_tys (pooled es) c) a.is), a.fits)

pub height_at : (es : List (Cell × Kept)) (k : ℕ) (c : Cell) (v : Kept) → PoolRight es → slice_get es k ≡ Some (c, v) → (v.height ≡ tys_height (tys_at (pooled es) k)) × (v.height ≤ 599)
height_at es k c v r h = let a = r.kept k (c, v) h in (a.height ∙ ap tys_height (sym (at_is (pooled es) k (cell_tys (pooled es) c) a.is)), a.low)

get_none : {A B : Type 0} (xs : List A) (ys : List B) (k : ℕ) → length xs ≡ length ys → slice_get xs k ≡ None → slice_get ys k ≡ None
get_none xs [] k l h = refl
get_none [] (y ∷ ys) k l h = cc
get_none (x ∷ xs) (y ∷ ys) zero l h = cc
get_none (x ∷ xs) (y ∷ ys) (suc k) l h = get_none xs ys k (omega (arith, l)) h

-- where no cell stands the list is empty
pub none_at : (es : List (Cell × Kept)) (k : ℕ) → slice_get es k ≡ None → tys_at (pooled es) k ≡ no_ty
none_at es k h = ap (λ o. unwrap_or o no_ty) (get_none es (pooled es) k (sym (pooled_length es)) h)

-- the heights of types by their parts
pub array_height : (ts : List TypeExprs) (k h : ℕ) → ShapeFits ts (Array k) → h ≡ tys_height (tys_at ts k) → h + 1 ≡ ty_height (shape_ty ts (Array k))
array_height ts k h (t, e) i =
    let a : tys_at ts k ≡ more_ty t no_ty = at_is ts k (more_ty t no_ty) e in
    let b : first_of (tys_at ts k) ≡ t = ap first_of a in
    let c : h ≡ max (ty_height t) 0 = i ∙ ap tys_height a in
    rw b (grind (arith, c))

pub named_height : (ts : List TypeExprs) (n k h : ℕ) → h ≡ tys_height (tys_at ts k) → h + 1 ≡ ty_height (shape_ty ts (Named n k))
named_height ts n k h i = omega (arith, i)

same_by : (ts : List TypeExprs) (j k : ℕ) → EachOnce ts → IsKept ts j → IsKept ts k → (b : Bool) → same_tys (tys_at ts j) (tys_at ts k) ≡ b → nat_eq j k ≡ b
same_by ts j k o f g true h = let e : j ≡ k = kept_one ts j k o f g (sames_equal (tys_at ts j) (tys_at ts k) h) in grind (arith, nat_tests)
same_by ts j k o f g false h = by (nat_eq j k) refl where
  by : (b : Bool) → nat_eq j k ≡ b → b ≡ false
  by false e = refl
  by true e =
      let s : j ≡ k = grind (arith, nat_tests) in
      let t : same_tys (tys_at ts j) (tys_at ts j) ≡ true = sames_self (tys_at ts j) in
      let u : same_tys (tys_at ts j) (tys_at ts j) ≡ false = subst (λ i. same_tys (tys_at ts j) (tys_at ts i) ≡ false) (sym s) h in
      absurd (cc)

-- the test for equal numbers is that for equal lists
pub same_numbers : (ts : List TypeExprs) (j k : ℕ) (b : Bool) → EachOnce ts → IsKept ts j → IsKept ts k → b ≡ nat_eq j k → b ≡ same_tys (tys_at ts j) (tys_at ts k)
same_numbers ts j k b o f g e = e ∙ same_by ts j k o f g (same_tys (tys_at ts j) (tys_at ts k)) refl

-- what is given in place of a parameter
pub given_none : (ts : List TypeExprs) (args : List Shape) (k place : ℕ) → slice_get args k ≡ None → param_ty place ≡ arg_at (list_of (shapes_tys ts args)) k place
given_none ts [] k place h = refl
given_none ts (s ∷ ss) zero place h = cc
given_none ts (s ∷ ss) (suc k) place h = given_none ts ss k place h

pub given_some : (ts : List TypeExprs) (args : List Shape) (k place : ℕ) (s : Shape) → slice_get args k ≡ Some s → shape_ty ts s ≡ arg_at (list_of (shapes_tys ts args)) k place
given_some ts [] k place s h = cc
given_some ts (x ∷ ss) zero place s h = let e : x ≡ s = cc in ap (shape_ty ts) (sym e)
given_some ts (x ∷ ss) (suc k) place s h = given_some ts ss k place s h

pub fit_at : (ts : List TypeExprs) (ss : List Shape) (k : ℕ) (s : Shape) → AllFit ts ss → slice_get ss k ≡ Some s → ShapeFits ts s
fit_at ts [] k s f h = cc
fit_at ts (x ∷ ss) zero s f h = let e : x ≡ s = cc in subst (ShapeFits ts) e f.0
fit_at ts (x ∷ ss) (suc k) s f h = fit_at ts ss k s f.1 h

-- a further shape
pub all_fit_more : (ts : List TypeExprs) (ss : List Shape) (s : Shape) → AllFit ts ss → ShapeFits ts s → AllFit ts (ss ++ s ∷ [])
all_fit_more ts [] s f g = (g, tt)
all_fit_more ts (x ∷ ss) s f g = (f.0, all_fit_more ts ss s f.1 g)

pub shapes_more : (ts : List TypeExprs) (ss : List Shape) (s : Shape) (us : TypeExprs) → shapes_before ts (ss ++ s ∷ []) us ≡ shapes_before ts ss (more_ty (shape_ty ts s) us)
shapes_more ts [] s us = refl
shapes_more ts (x ∷ ss) s us = ap (more_ty (shape_ty ts x)) (shapes_more ts ss s us)

-- a list is as high as each of its ends
pub end_height : (ts : List TypeExprs) (ss : List Shape) (us : TypeExprs) → tys_height us ≤ tys_height (shapes_before ts ss us)
end_height ts [] us = omega arith
end_height ts (s ∷ ss) us = let l = end_height ts ss us in grind (arith, l)
