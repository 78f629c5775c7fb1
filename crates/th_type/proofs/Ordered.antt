-- Sorted by how many types each reaches, declared types stand after their supertypes.
use Rattle.std.proofs.Common.{◌≡◌, ◌∙◌, ℕ, zero, suc, ◌+◌, ◌<◌, ◌≤◌, List, [], ◌∷◌, map, length, get_or, Option, Some, None, ◌⊎◌, inl, inr, ap, sym, subst, refl, arith}
use Rattle.std.specs.Global.{Vec}
use Rattle.std.specs.List.{Contains}
use Rattle.std.specs.List.Sorted.{IsPermutation, IsNonDecreasingBy}
use Rattle.std.specs.Prelude.{slice_get}
use Rattle.std.proofs.lemmas.List.Sorted.{Contains-permutation}
use Rattle.th_type.specs.declared.sig.Sig.{Sig}
use Rattle.th_type.specs.Types.{TypeExpr, TypeExprs, named_ty}
use Rattle.th_type.specs.Declarations.{DeclaredType, supers_of}
use Rattle.th_type.specs.Lists.{IsIn}
use Rattle.th_type.specs.LatticeRight.{LatticeRight}
use Rattle.th_type.specs.Ordering.{StandsBefore, SupersFirst}

in_contains : (x : ℕ) (xs : List ℕ) → IsIn x xs → Contains xs x
in_contains x [] h = absurd h
in_contains x (y ∷ ys) (inl e) = (0, omega arith, sym e)
in_contains x (y ∷ ys) (inr i) = let c = in_contains x ys i in let h : c.0 < length ys = c.1 in (suc c.0, omega arith, c.2)

got_read : (l : List ℕ) (j d : ℕ) → j < length l → get_or l j d ≡ d → slice_get l j ≡ Some d
got_read [] j d h e = absurd (omega arith)
got_read (x ∷ xs) zero d h e = ap Some e
got_read (x ∷ xs) (suc j) d h e = got_read xs j d (omega arith) e

read_got : (l : List ℕ) (k n d : ℕ) → slice_get l k ≡ Some n → get_or l k d ≡ n
read_got [] k n d e = absurd (cc)
read_got (x ∷ xs) zero n d e = cc
read_got (x ∷ xs) (suc k) n d e = read_got xs k n d e

order_of : (j k : ℕ) → (j < k) ⊎ (k ≤ j)
order_of j zero = inr (omega arith)
order_of zero (suc k) = inl (omega arith)
order_of (suc j) (suc k) = step (order_of j k)
  where
    step : (j < k) ⊎ (k ≤ j) → (suc j < suc k) ⊎ (suc k ≤ suc j)
    step (inl h) = inl (omega arith)
    step (inr h) = inr (omega arith)

pub supers_before : (D : List DeclaredType) (heads order : List ℕ) (up : ℕ → List TypeExpr) (es : List (ℕ × Vec Sig)) → LatticeRight D heads up es → IsPermutation heads order
    → IsNonDecreasingBy (λ n. length (up n)) order → SupersFirst D order
supers_before D heads order up es r p s = λ k n t e i.
    let h = (r.climbed n).heads t ((r.climbed n).all t (t, i, (0, refl))) in
    let c = Contains-permutation heads order h.0 p (Contains-permutation (map (λ d. d.name) D) heads h.0 r.permutation (in_contains h.0 (map (λ d. d.name) D) h.3)) in
    let f : length (up h.0) < length (up n) = r.falls n h.0 h.1 (subst (λ u. IsIn u (supers_of D n)) h.2 i) in
    let before : c.0 < k = by (order_of c.0 k) c.1 c.2 e f in
    (c.0, h.0, h.1, h.2, before, got_read order c.0 h.0 c.1 c.2)
  where
    by : {j k m n : ℕ} → (j < k) ⊎ (k ≤ j) → j < length order → get_or order j m ≡ m → slice_get order k ≡ Some n → length (up m) < length (up n) → j < k
    by (inl q) h g e f = q
    by {j} {k} {m} {n} (inr q) h g e f =
        let z : length (up (get_or order k m)) ≤ length (up (get_or order j m)) = s k j m q h in
        let a : length (up (get_or order k m)) ≡ length (up n) = ap (λ x. length (up x)) (read_got order k n m e) in
        let b : length (up (get_or order j m)) ≡ length (up m) = ap (λ x. length (up x)) g in absurd (omega arith)
