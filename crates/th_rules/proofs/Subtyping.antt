-- The test of subtypes decides the relation, where ways end.
use Rattle.std.proofs.Common.{◌≡◌, ◌↔◌, ℕ, zero, suc, ◌≤◌, Bool, true, false, ◌||◌, List, [], ◌∷◌, length, refl, sym, ap, ◌∙◌, subst, ◌⊎◌, inl, inr, arith}
use Rattle.std.specs.List.{list_any}
use Rattle.th_type.specs.Lists.{IsIn}
use Rattle.th_type.specs.Types.{TypeExpr, same_ty}
use Rattle.th_type.specs.Declarations.{DeclaredType}
use Rattle.th_type.specs.Subtypes.{parents, Climbs, Subtype}
use Rattle.th_type.proofs.Same.{same_self, same_equal}
use Rattle.th_rules.specs.Classes.{is_within, is_subtype}
use Rattle.th_type.specs.Ways.{WaysEnd}

either : (a b : Bool) → (a || b) ≡ true → (a ≡ true) ⊎ (b ≡ true)
either true b h = inl refl
either false b h = inr h

or_left : (a b : Bool) → a ≡ true → (a || b) ≡ true
or_left true b h = refl
or_left false b h = cc

or_right : (a b : Bool) → b ≡ true → (a || b) ≡ true
or_right true b h = refl
or_right false b h = h

any_in : {A : Type 0} (f : A → Bool) (xs : List A) → list_any f xs ≡ true → (x : A) × IsIn x xs × (f x ≡ true)
any_in f [] h = cc
any_in f (x ∷ xs) h = elim (either (f x) (list_any f xs) h) [ inl e ↦ (x, inl refl, e) | inr r ↦ (let p = any_in f xs r in (p.0, inr p.1, p.2)) ]

in_any : {A : Type 0} (f : A → Bool) (x : A) (xs : List A) → IsIn x xs → f x ≡ true → list_any f xs ≡ true
in_any f x [] i h = absurd i
in_any f x (y ∷ ys) (inl e) h = or_left (f y) (list_any f ys) (subst (λ z. f z ≡ true) e h)
in_any f x (y ∷ ys) (inr i) h = or_right (f y) (list_any f ys) (in_any f x ys i h)

-- what is within so many steps is a supertype
within_climbs : (k : ℕ) (D : List DeclaredType) (t u : TypeExpr) → is_within k D t u ≡ true → Subtype D t u
within_climbs zero D t u h = (0, same_equal t u h)
within_climbs (suc k) D t u h = elim (either (same_ty t u) (list_any (λ v. is_within k D v u) (parents D t)) h) [
  | inl e ↦ (0, same_equal t u e)
  | inr r ↦ (let p = any_in (λ v. is_within k D v u) (parents D t) r in let s = within_climbs k D p.0 u p.2 in (suc s.0, (p.0, p.1, s.1)))
]

within_self : (k : ℕ) (D : List DeclaredType) (t : TypeExpr) → is_within k D t t ≡ true
within_self zero D t = same_self t
within_self (suc k) D t = or_left (same_ty t t) (list_any (λ v. is_within k D v t) (parents D t)) (same_self t)

-- what is reached in at most so many steps is within them
climbs_within : (j k : ℕ) (D : List DeclaredType) (t u : TypeExpr) → Climbs D j t u → j ≤ k → is_within k D t u ≡ true
climbs_within zero k D t u c h = subst (λ v. is_within k D t v ≡ true) c (within_self k D t)
climbs_within (suc j) zero D t u c h = absurd (omega (arith, h))
climbs_within (suc j) (suc k) D t u (v, i, c) h =
    let b : j ≤ k = omega (arith, h) in
    or_right (same_ty t u) (list_any (λ w. is_within k D w u) (parents D t)) (in_any (λ w. is_within k D w u) v (parents D t) i (climbs_within j k D v u c b))

pub test_decides : (D : List DeclaredType) (t u : TypeExpr) → WaysEnd D → (is_subtype D t u ≡ true) ↔ Subtype D t u
test_decides D t u h = (within_climbs (length D) D t u, λ s. climbs_within s.0 (length D) D t u s.1 (h s.0 t u s.1))
