-- Heights that are reached, and whether a class reaches one above 600.
use Rattle.std.proofs.Common.{◌≡◌, ℕ, zero, suc, ◌+◌, ◌<◌, ◌≤◌, min, Bool, true, false, nat_lt, ◌||◌, ◌⊎◌, inl, inr, List, [], ◌∷◌, Some, refl, sym, subst, arith}
use Rattle.std.proofs.lemmas.Bool.Decides.{nat_tests}
use Rattle.th_type.specs.Types.{TypeExpr, TypeExprs, named_ty, list_of, arg_at, subst_ty}
use Rattle.th_module_rules.specs.Inheriting.{ClassRow, row_at, Inherits, ReachesIn, ReachesHigh}
use Rattle.th_inherits.specs.Occurrences.{Occurs}
use Rattle.th_inherits.specs.Heights.{height_at, stepped}
use Rattle.th_inherits.specs.Tables.{Reached, AllReached, IsSettled, is_high}
use Rattle.th_inherits.proofs.Occurring.{occurs_low, deepest, occurs_from, occurs_fixed, occurs_given, Comes}
use Rattle.th_inherits.proofs.Spreading.{Origin, before, base, fixed, param, stepped_base, stepped_fixed, stepped_param, stepped_is}

through_fixed : (rows : List ClassRow) (n m : ℕ) (args : TypeExprs) (r : ClassRow) (h new : ℕ) → row_at rows n ≡ Some r → Inherits r.inherits m args → Reached rows m 0 h → new ≤ h → Reached rows n 0 new
through_fixed rows n m args r h new e i q s =
    let b = q.5 in
    (suc q.0, subst_ty (list_of args) q.1, q.2, (r, m, args, e, i, inr (q.1, q.3, refl)), occurs_fixed (list_of args) q.1 q.2 q.4, omega (arith, b, s))

through_param : (rows : List ClassRow) (n m : ℕ) (args : TypeExprs) (r : ClassRow) (k l d h new : ℕ) → row_at rows n ≡ Some r → Inherits r.inherits m args → Reached rows m (suc k) h → Occurs (arg_at (list_of args) k k) l d → new ≤ h + d → Reached rows n l new
through_param rows n m args r k l d h new e i q o s =
    let b = q.5 in
    (suc q.0, subst_ty (list_of args) q.1, q.2 + d, (r, m, args, e, i, inr (q.1, q.3, refl)), occurs_given (list_of args) q.1 k l q.2 d q.4 o, omega (arith, b, s))

by_origin : (rows : List ClassRow) (n m : ℕ) (args : TypeExprs) (r : ClassRow) (vs : List ℕ) (l old new : ℕ) → row_at rows n ≡ Some r → Inherits r.inherits m args
    → ((j : ℕ) → 0 < height_at vs j → Reached rows m j (height_at vs j)) → (0 < old → Reached rows n l old) → 0 < new → Origin vs m args l old new → Reached rows n l new
by_origin rows n m args r vs l old new e i f g p (before s) = subst (λ h. Reached rows n l h) (sym s) (g (subst (λ h. 0 < h) s p))
by_origin rows n m args r vs l old new e i f g p (base d o s) = (suc zero, named_ty m args, d, (r, m, args, e, i, inl refl), o, omega (arith, s))
by_origin rows n m args r vs l old new e i f g p (fixed z s) =
    subst (λ j. Reached rows n j new) (sym z)
    (through_fixed rows n m args r (height_at vs 0) new e i (f 0 (omega (arith, p, s))) (omega (arith, s)))
by_origin rows n m args r vs l old new e i f g p (param k d h o s) = through_param rows n m args r k l d (height_at vs (suc k)) new e i (f (suc k) h) o s

-- what a class gets from the class that it inherits is reached
pub step_reached : (rows : List ClassRow) (H : ℕ → List ℕ) (n m : ℕ) (args : TypeExprs) (r : ClassRow) → AllReached rows H → row_at rows n ≡ Some r → Inherits r.inherits m args
    → (l : ℕ) → 0 < height_at (stepped (H m) args (H n)) l → Reached rows n l (height_at (stepped (H m) args (H n)) l)
step_reached rows H n m args r a e i l p =
    by_origin rows n m args r (H m) l (height_at (H n) l) (height_at (stepped (H m) args (H n)) l) e i (a m) (a n l) p (stepped_is (H m) m args (H n) l)

covers_base : (rows : List ClassRow) (H : ℕ → List ℕ) → ((n : ℕ) → IsSettled rows H n) → (n m : ℕ) (args : TypeExprs) (r : ClassRow) (l d : ℕ) → row_at rows n ≡ Some r → Inherits r.inherits m args → Occurs (named_ty m args) l d → min (suc d) 601 ≤ height_at (H n) l
covers_base rows H s n m args r l d e i o =
    let a = stepped_base (H m) m args (H n) l d o in
    let b = s n r m args e i l in
    omega (arith, a, b)

covers_more : (rows : List ClassRow) (H : ℕ → List ℕ) → ((n : ℕ) → IsSettled rows H n) → (n m : ℕ) (args : TypeExprs) (r : ClassRow) (l d : ℕ) (Stands : ℕ → ℕ → Type 0) → row_at rows n ≡ Some r → Inherits r.inherits m args
    → ((j c : ℕ) → Stands j c → min (suc c) 601 ≤ height_at (H m) j) → Comes Stands (list_of args) l d → min (suc d) 601 ≤ height_at (H n) l
covers_more rows H s n m args r l d Stands e i f (inl o) =
    let a = f 0 d o.1 in
    let b = stepped_fixed (H m) args (H n) in
    let c = s n r m args e i 0 in
    let h : min (suc d) 601 ≤ height_at (H n) 0 = omega (arith, a, b, c) in
    subst (λ j. min (suc d) 601 ≤ height_at (H n) j) (sym o.0) h
covers_more rows H s n m args r l d Stands e i f (inr o) =
    let a = f (suc o.0) o.1 o.3 in
    let p : 0 < height_at (H m) (suc o.0) = omega (arith, a) in
    let b = stepped_param (H m) args (H n) o.0 l o.2 p o.4 in
    let c = s n r m args e i l in
    let z = o.5 in
    omega (arith, a, b, c, z)

covers_last : (rows : List ClassRow) (H : ℕ → List ℕ) → ((n : ℕ) → IsSettled rows H n) → (k n m : ℕ) (args : TypeExprs) (r : ClassRow) (t : TypeExpr) (l d : ℕ) → row_at rows n ≡ Some r → Inherits r.inherits m args
    → ((u : TypeExpr) (j c : ℕ) → ReachesIn k rows m u → Occurs u j c → min (suc c) 601 ≤ height_at (H m) j)
    → (t ≡ named_ty m args) ⊎ ((u : TypeExpr) × ReachesIn k rows m u × (t ≡ subst_ty (list_of args) u)) → Occurs t l d → min (suc d) 601 ≤ height_at (H n) l
covers_last rows H s k n m args r t l d e i f (inl q) o = covers_base rows H s n m args r l d e i (subst (λ u. Occurs u l d) q o)
covers_last rows H s k n m args r t l d e i f (inr q) o =
    covers_more rows H s n m args r l d (Occurs q.0) e i (λ j c. f q.0 j c q.1) (occurs_from (list_of args) q.0 l d (subst (λ u. Occurs u l d) q.2 o))

-- where nothing grows any more, all that is reached is as high in the lists, up to 601
pub settled_covers : (rows : List ClassRow) (H : ℕ → List ℕ) → ((n : ℕ) → IsSettled rows H n) → (k n : ℕ) (t : TypeExpr) (l d : ℕ) → ReachesIn k rows n t → Occurs t l d → min (suc d) 601 ≤ height_at (H n) l
settled_covers rows H s zero n t l d q o = absurd q
settled_covers rows H s (suc k) n t l d q o = covers_last rows H s k n q.1 q.2 q.0 t l d q.3 q.4 (λ u j c. settled_covers rows H s k q.1 u j c) q.5 o

high_first : (h : ℕ) (hs : List ℕ) (b : Bool) → nat_lt 600 h ≡ b → b || is_high hs ≡ true → (is_high hs ≡ true → (l : ℕ) × (600 < height_at hs l)) → (l : ℕ) × (600 < height_at (h ∷ hs) l)
high_first h hs true b e f = (0, grind (arith, nat_tests))
high_first h hs false b e f = let q = f e in (suc q.0, q.1)

high_there : (hs : List ℕ) → is_high hs ≡ true → (l : ℕ) × (600 < height_at hs l)
high_there [] e = cc
high_there (h ∷ hs) e = high_first h hs (nat_lt 600 h) refl e (λ f. high_there hs f)

both_false : (a b : Bool) → a || b ≡ false → (a ≡ false) × (b ≡ false)
both_false true b e = cc
both_false false b e = (refl, e)

low_first : (h : ℕ) → nat_lt 600 h ≡ false → h ≤ 600
low_first h e = grind (arith, nat_tests)

high_seen : (hs : List ℕ) (l : ℕ) → is_high hs ≡ false → height_at hs l ≤ 600
high_seen [] l e = omega arith
high_seen (h ∷ hs) zero e = low_first h (both_false (nat_lt 600 h) (is_high hs) e).0
high_seen (h ∷ hs) (suc l) e = high_seen hs l (both_false (nat_lt 600 h) (is_high hs) e).1

-- a class whose list has a height above 600 reaches one
pub high_reaches : (rows : List ClassRow) (H : ℕ → List ℕ) → AllReached rows H → (n : ℕ) → is_high (H n) ≡ true → ReachesHigh rows n
high_reaches rows H a n e =
    let h = high_there (H n) e in
    let b = h.1 in
    let q = a n h.0 (omega (arith, b)) in
    let c = q.5 in
    let d = occurs_low q.1 h.0 q.2 q.4 in
    (q.0, q.1, q.3, omega (arith, b, c, d))

-- a class that reaches one has it in its list
pub reaches_high : (rows : List ClassRow) (H : ℕ → List ℕ) → ((n : ℕ) → IsSettled rows H n) → (n : ℕ) → is_high (H n) ≡ false → ¬ ReachesHigh rows n
reaches_high rows H s n e q =
    let t = deepest q.1 in
    let a = settled_covers rows H s q.0 n q.1 t.0 t.1 q.2 t.2 in
    let b = high_seen (H n) t.0 e in
    let c = t.3 in
    let d = q.3 in
    absurd (omega (arith, a, b, c, d))
