-- The tests of signatures decide conforming.
use Rattle.std.proofs.Common.{◌≡◌, ◌∙◌, ℕ, ◌↔◌, Bool, true, false, nat_eq, ◌&&◌, ◌||◌, List, [], ◌∷◌, Option, Some, None, refl, ap, sym, subst, inl, inr, arith, IsTrue}
use Rattle.std.proofs.lemmas.Bool.Decides.{nat_tests}
use Rattle.std.specs.List.{list_any}
use Rattle.th_type.specs.Lists.{IsIn, AllIn}
use Rattle.th_type.specs.Types.{TypeExpr, same_tys}
use Rattle.th_type.specs.Signatures.{Signature}
use Rattle.th_type.specs.Methods.{ExactlyConforms, SameSignature}
use Rattle.th_type.specs.Conforming.{all_in, same_gives, same_bool, exactly, same_sig}
use Rattle.th_type.proofs.Same.{both, same_self, sames_self, same_equal, sames_equal}

pub both_true : (a b : Bool) → a ≡ true → b ≡ true → (a && b) ≡ true
both_true true b e f = f
both_true false b e f = cc

any_if : (n m : ℕ) (ms : List ℕ) (b : Bool) → nat_eq m n ≡ b → (list_any (λ y. nat_eq y n) ms ≡ true → IsIn n ms) → (b || list_any (λ y. nat_eq y n) ms) ≡ true → IsIn n (m ∷ ms)
any_if n m ms true e r h = inl (grind (arith, nat_tests))
any_if n m ms false e r h = inr (r h)

any_in_to : (n : ℕ) (ms : List ℕ) → list_any (λ y. nat_eq y n) ms ≡ true → IsIn n ms
any_in_to n [] h = cc
any_in_to n (m ∷ ms) h = any_if n m ms (nat_eq m n) refl (any_in_to n ms) h

any_from_if : (n m : ℕ) (ms : List ℕ) → (IsIn n ms → list_any (λ y. nat_eq y n) ms ≡ true) → IsIn n (m ∷ ms) → (nat_eq m n || list_any (λ y. nat_eq y n) ms) ≡ true
any_from_if n m ms r (inl e) = let q : nat_eq m n ≡ true = grind (arith, nat_tests) in rw q refl
any_from_if n m ms r (inr i) = or_right (nat_eq m n) (list_any (λ y. nat_eq y n) ms) (r i) where
  or_right : (a b : Bool) → b ≡ true → (a || b) ≡ true
  or_right true b h = refl
  or_right false b h = h

any_in_from : (n : ℕ) (ms : List ℕ) → IsIn n ms → list_any (λ y. nat_eq y n) ms ≡ true
any_in_from n [] i = absurd i
any_in_from n (m ∷ ms) i = any_from_if n m ms (any_in_from n ms) i

pub all_in_to : (xs ys : List ℕ) → all_in xs ys ≡ true → AllIn xs ys
all_in_to [] ys h n i = absurd i
all_in_to (x ∷ xs) ys h n (inl e) = let p = both (list_any (λ y. nat_eq y x) ys) (all_in xs ys) h in subst (λ n. IsIn n ys) (sym e) (any_in_to x ys p.0)
all_in_to (x ∷ xs) ys h n (inr i) = let p = both (list_any (λ y. nat_eq y x) ys) (all_in xs ys) h in all_in_to xs ys p.1 n i

pub all_in_from : (xs ys : List ℕ) → AllIn xs ys → all_in xs ys ≡ true
all_in_from [] ys h = refl
all_in_from (x ∷ xs) ys h = both_true (list_any (λ y. nat_eq y x) ys) (all_in xs ys) (any_in_from x ys (h x (inl refl))) (all_in_from xs ys (λ n i. h n (inr i)))

pub gives_to : (s t : Option TypeExpr) → same_gives s t ≡ true → s ≡ t
gives_to None None h = refl
gives_to None (Some u) h = cc
gives_to (Some t) None h = cc
gives_to (Some t) (Some u) h = ap Some (same_equal t u h)

pub gives_from : (s t : Option TypeExpr) → s ≡ t → same_gives s t ≡ true
gives_from None t e = subst (λ t. same_gives None t ≡ true) e refl
gives_from (Some s) t e = subst (λ t. same_gives (Some s) t ≡ true) e (same_self s)

pub bool_to : (a b : Bool) → same_bool a b ≡ true → a ≡ b
bool_to true b h = sym h
bool_to false true h = cc
bool_to false false h = refl

pub bool_from : (a b : Bool) → a ≡ b → same_bool a b ≡ true
bool_from true b e = sym e
bool_from false true e = cc
bool_from false false e = refl

pub exactly_to : (s t : Signature) → exactly s t ≡ true → ExactlyConforms s t
exactly_to s t h =
    let p = both (same_bool s.iterator t.iterator) (same_tys s.formals t.formals && (same_gives s.gives t.gives && all_in s.signals t.signals)) h in
    let q = both (same_tys s.formals t.formals) (same_gives s.gives t.gives && all_in s.signals t.signals) p.1 in
    let r = both (same_gives s.gives t.gives) (all_in s.signals t.signals) q.1 in
    record { iterator = bool_to s.iterator t.iterator p.0; formals = sames_equal s.formals t.formals q.0; gives = gives_to s.gives t.gives r.0; signals = all_in_to s.signals t.signals r.1 }

pub exactly_from : (s t : Signature) → ExactlyConforms s t → exactly s t ≡ true
exactly_from s t h =
    both_true (same_bool s.iterator t.iterator) (same_tys s.formals t.formals && (same_gives s.gives t.gives && all_in s.signals t.signals)) (bool_from s.iterator t.iterator h.iterator)
    (both_true (same_tys s.formals t.formals) (same_gives s.gives t.gives && all_in s.signals t.signals) (subst (λ fs. same_tys s.formals fs ≡ true) h.formals (sames_self s.formals))
    (both_true (same_gives s.gives t.gives) (all_in s.signals t.signals) (gives_from s.gives t.gives h.gives) (all_in_from s.signals t.signals h.signals)))

pub exactly_decides : (s t : Signature) (r : Bool) → r ≡ exactly s t → IsTrue r ↔ ExactlyConforms s t
exactly_decides s t r e = ((λ h. exactly_to s t (sym e ∙ h)), (λ h. e ∙ exactly_from s t h))

pub same_to : (s t : Signature) → same_sig s t ≡ true → SameSignature s t
same_to s t h =
    let p = both (exactly s t) (all_in t.signals s.signals) h in
    let q = exactly_to s t p.0 in
    record { iterator = q.iterator; formals = q.formals; gives = q.gives; forth = q.signals; back = all_in_to t.signals s.signals p.1 }

pub same_from : (s t : Signature) → SameSignature s t → same_sig s t ≡ true
same_from s t h = both_true (exactly s t) (all_in t.signals s.signals) (exactly_from s t (record { iterator = h.iterator; formals = h.formals; gives = h.gives; signals = h.forth })) (all_in_from t.signals s.signals h.back)
