-- Steps of loops over lists.
use Rattle.std.proofs.Common.{◌≡◌, ℕ, zero, suc, ◌+◌, ◌<◌, ◌≤◌, List, [], ◌∷◌, ◌++◌, map, length, get_or, drop, Bool, true, false, nat_eq, cond, refl, sym, ap, ◌∙◌, subst, ◌⊎◌, inl, inr, arith, Option, Some, None, append_assoc, append-nil}
use Rattle.std.proofs.lemmas.Bool.Decides.{nat_tests}
use Rattle.std.specs.Prelude.{slice_get, option_map, option_and_then, ◌||◌}
use Rattle.std.specs.List.{filter, list_any}
use Rattle.th_type.specs.declared.sig.Sig.{Sig}
use Rattle.th_type.specs.Signatures.{Signature, sig_of}
use Rattle.th_type.specs.Lists.{or_else}
use Rattle.th_type.specs.declared.ty.Ty.{Ty}
use Rattle.th_type.specs.Types.{TypeExpr, ty_of}
use Rattle.th_views.specs.Lookups.{index_of, after}
use Rattle.th_shape.specs.Places.{index_from}
use Rattle.th_shape.specs.Placed.{place_by, places_by, somes}

pub or_again : {A : Type 0} (a b c : Option A) → or_else (or_else a b) c ≡ or_else a (or_else b c)
or_again None b c = refl
or_again (Some x) b c = refl

pub or_none : {A : Type 0} (a : Option A) → or_else a None ≡ a
or_none None = refl
or_none (Some x) = refl

pub map_drop : {A B : Type 0} (f : A → B) (xs : List A) (i : ℕ) (x d : A) → i < length xs → x ≡ get_or xs i d → map f (drop i xs) ≡ f x ∷ map f (drop (i + 1) xs)
map_drop f [] i x d h e = absurd (omega arith)
map_drop f (y ∷ ys) zero x d h e = ap (λ z. f z ∷ map f ys) (sym e)
map_drop f (y ∷ ys) (suc i) x d h e = map_drop f ys i x d (omega arith) e ∙ same
  where
    same : f x ∷ map f (drop (i + 1) ys) ≡ f x ∷ map f (drop (suc i + 1) (y ∷ ys))
    same = let q : suc i + 1 ≡ suc (i + 1) = omega arith in ap (λ n. f x ∷ map f (drop n (y ∷ ys))) (sym q)

pub drop_end : {A : Type 0} (xs : List A) (i : ℕ) → length xs ≤ i → drop i xs ≡ []
drop_end [] zero h = refl
drop_end [] (suc i) h = refl
drop_end (x ∷ xs) zero h = absurd (omega arith)
drop_end (x ∷ xs) (suc i) h = drop_end xs i (omega arith)

pub eq_swap : (a b : ℕ) → nat_eq a b ≡ nat_eq b a
eq_swap a b = grind (arith, nat_tests)

-- first places
after_map : (k : ℕ) (o : Option ℕ) → option_map (λ i. k + 1 + i) o ≡ option_map (λ i. k + i) (after o)
after_map k None = refl
after_map k (Some i) = let e : k + 1 + i ≡ k + (i + 1) = omega arith in ap Some e

from_is : (k : ℕ) (l : List ℕ) (q : ℕ) → index_from k l q ≡ option_map (λ i. k + i) (index_of q l)
from_is k [] q = refl
from_is k (x ∷ xs) q = by (nat_eq x q) (from_is (k + 1) xs q ∙ after_map k (index_of q xs))
  where
    by : (b : Bool) → index_from (k + 1) xs q ≡ option_map (λ i. k + i) (after (index_of q xs))
        → cond b (Some k) (index_from (k + 1) xs q) ≡ option_map (λ i. k + i) (cond b (Some 0) (after (index_of q xs)))
    by true e = let z : k ≡ k + 0 = omega arith in ap Some z
    by false e = e

zero_map : (o : Option ℕ) → option_map (λ i. 0 + i) o ≡ o
zero_map None = refl
zero_map (Some i) = let z : 0 + i ≡ i = omega arith in ap Some z

pub index_end : (o : Option ℕ) (k : ℕ) (l : List ℕ) (q : ℕ) → or_else o (index_from k (drop k l) q) ≡ index_from 0 l q → length l ≤ k → o ≡ index_of q l
index_end o k l q e h = sym (or_none o) ∙ ap (λ x. or_else o (index_from k x q)) (sym (drop_end l k h)) ∙ e ∙ from_is 0 l q ∙ zero_map (index_of q l)

pub numbers_drop : (l : List ℕ) (i : ℕ) → i < length l → drop i l ≡ get_or l i 0 ∷ drop (i + 1) l
numbers_drop [] i h = absurd (omega arith)
numbers_drop (x ∷ xs) zero h = refl
numbers_drop (x ∷ xs) (suc i) h = numbers_drop xs i (omega arith) ∙ (let q : suc i + 1 ≡ suc (i + 1) = omega arith in ap (λ n. get_or xs i 0 ∷ drop n (x ∷ xs)) (sym q))

-- one more type of a list whose places are found
pub places_step : (f : ℕ → Option ℕ) (xs : List Ty) (i : ℕ) (x d : Ty) (found more whole : List ℕ) (p : Option ℕ) → i < length xs → x ≡ get_or xs i d → p ≡ place_by f (ty_of x) → more ≡ found ++ somes (p ∷ [])
    → found ++ places_by f (map ty_of (drop i xs)) ≡ whole → more ++ places_by f (map ty_of (drop (i + 1) xs)) ≡ whole
places_step f xs i x d found more whole p l e g m h =
    ap (λ v. v ++ places_by f (map ty_of (drop (i + 1) xs))) (m ∙ ap (λ o. found ++ somes (o ∷ [])) g) ∙ by (place_by f (ty_of x)) ∙ ap (λ ts. found ++ places_by f ts) (sym (map_drop ty_of xs i x d l e)) ∙ h
  where
    by : (o : Option ℕ) → (found ++ somes (o ∷ [])) ++ places_by f (map ty_of (drop (i + 1) xs)) ≡ found ++ somes (o ∷ map (place_by f) (map ty_of (drop (i + 1) xs)))
    by None = ap (λ v. v ++ places_by f (map ty_of (drop (i + 1) xs))) (append-nil found)
    by (Some n) = append_assoc found (n ∷ []) (places_by f (map ty_of (drop (i + 1) xs)))

pub places_end : (f : ℕ → Option ℕ) (xs : List Ty) (i : ℕ) (found whole : List ℕ) → length xs ≤ i → found ++ places_by f (map ty_of (drop i xs)) ≡ whole → found ≡ whole
places_end f xs i found whole h e = sym (append-nil found) ∙ ap (λ ts. found ++ places_by f (map ty_of ts)) (sym (drop_end xs i h)) ∙ e

-- a test of each type of a list
pub any_true : (F : TypeExpr → Bool) (xs : List Ty) (i : ℕ) (x d : Ty) (b whole : Bool) → i < length xs → x ≡ get_or xs i d → b ≡ F (ty_of x) → b ≡ true → list_any F (map ty_of (drop i xs)) ≡ whole → true ≡ whole
any_true F xs i x d b whole l e f t h = sym (ap (λ c. c || list_any F (map ty_of (drop (i + 1) xs))) (sym f ∙ t)) ∙ ap (list_any F) (sym (map_drop ty_of xs i x d l e)) ∙ h

pub any_more : (F : TypeExpr → Bool) (xs : List Ty) (i : ℕ) (x d : Ty) (b whole : Bool) → i < length xs → x ≡ get_or xs i d → b ≡ F (ty_of x) → b ≡ false → list_any F (map ty_of (drop i xs)) ≡ whole → list_any F (map ty_of (drop (i + 1) xs)) ≡ whole
any_more F xs i x d b whole l e f t h = sym (ap (λ c. c || list_any F (map ty_of (drop (i + 1) xs))) (sym f ∙ t)) ∙ ap (list_any F) (sym (map_drop ty_of xs i x d l e)) ∙ h

pub any_end : (F : TypeExpr → Bool) (xs : List Ty) (i : ℕ) (whole : Bool) → length xs ≤ i → list_any F (map ty_of (drop i xs)) ≡ whole → false ≡ whole
any_end F xs i whole l h = ap (λ ts. list_any F (map ty_of ts)) (sym (drop_end xs i l)) ∙ h

-- methods of signatures that pass a test
pub own_step : (P : Signature → Bool) (xs : List Sig) (i : ℕ) (x d : Sig) (found more whole : List ℕ) → i < length xs → x ≡ get_or xs i d → more ≡ found ++ map (λ s. s.method) (filter P (sig_of x ∷ []))
    → found ++ map (λ s. s.method) (filter P (map sig_of (drop i xs))) ≡ whole → more ++ map (λ s. s.method) (filter P (map sig_of (drop (i + 1) xs))) ≡ whole
own_step P xs i x d found more whole l e m h =
    ap (λ v. v ++ map (λ s. s.method) (filter P (map sig_of (drop (i + 1) xs)))) m ∙ append_assoc found (map (λ s. s.method) (filter P (sig_of x ∷ []))) (map (λ s. s.method) (filter P (map sig_of (drop (i + 1) xs))))
    ∙ ap (λ v. found ++ v) (by (P (sig_of x))) ∙ ap (λ ss. found ++ map (λ s. s.method) (filter P ss)) (sym (map_drop sig_of xs i x d l e)) ∙ h
  where
    by : (b : Bool) → map (λ s. s.method) (cond b (sig_of x ∷ []) []) ++ map (λ s. s.method) (filter P (map sig_of (drop (i + 1) xs)))
        ≡ map (λ s. s.method) (cond b (sig_of x ∷ filter P (map sig_of (drop (i + 1) xs))) (filter P (map sig_of (drop (i + 1) xs))))
    by true = refl
    by false = refl

pub own_end : (P : Signature → Bool) (xs : List Sig) (i : ℕ) (found whole : List ℕ) → length xs ≤ i → found ++ map (λ s. s.method) (filter P (map sig_of (drop i xs))) ≡ whole → found ≡ whole
own_end P xs i found whole l h = sym (append-nil found) ∙ ap (λ ss. found ++ map (λ s. s.method) (filter P (map sig_of ss))) (sym (drop_end xs i l)) ∙ h
