-- Clauses whose parameters are below a count.
use Rattle.std.proofs.Common.{◌≡◌, ◌∙◌, ℕ, zero, suc, ◌+◌, ◌<◌, ◌≤◌, List, [], ◌∷◌, ◌++◌, length, map, take, get_or, refl, ap, sym, subst, inl, inr, arith}
use Rattle.std.proofs.lemmas.List.{map-append, take_more}
use Rattle.th_type.specs.declared.sig.Clause.{Clause}
use Rattle.th_type.specs.Lists.{IsIn}
use Rattle.th_type.specs.Signatures.{Constraint, clause_of}
use Rattle.th_type.proofs.Members.{from_append}

-- the first clauses and one more
pub below_more : (cs : List Clause) (k n : ℕ) (d : Clause) → k < length cs → d ≡ get_or cs k d → d.param < n → ((c : Constraint) → IsIn c (map clause_of (take k cs)) → c.param < n)
    → (c : Constraint) → IsIn c (map clause_of (take (k + 1) cs)) → c.param < n
below_more cs k n d h e b f c i =
    let q : map clause_of (take (k + 1) cs) ≡ map clause_of (take k cs) ++ clause_of d ∷ [] = ap (map clause_of) (take_more cs k d h) ∙ map-append clause_of (take k cs) (get_or cs k d ∷ []) ∙ ap (λ (y : Clause). map clause_of (take k cs) ++ clause_of y ∷ []) (sym e) in
    elim (from_append c (map clause_of (take k cs)) (clause_of d ∷ []) (subst (λ xs. IsIn c xs) q i)) [
      | inl j ↦ f c j
      | inr j ↦ elim j [ inl s ↦ subst (λ (y : Constraint). y.param < n) (sym s) b | inr z ↦ absurd z ]
    ]

take_whole : {A : Type 0} (k : ℕ) (xs : List A) → length xs ≤ k → take k xs ≡ xs
take_whole zero [] h = refl
take_whole (suc k) [] h = refl
take_whole zero (x ∷ xs) h = absurd (omega (arith, h))
take_whole (suc k) (x ∷ xs) h = ap (λ ys. x ∷ ys) (take_whole k xs (omega (arith, h)))

-- all clauses
pub below_all : (cs : List Clause) (k n : ℕ) → length cs ≤ k → ((c : Constraint) → IsIn c (map clause_of (take k cs)) → c.param < n) → (c : Constraint) → IsIn c (map clause_of cs) → c.param < n
below_all cs k n h f c i = f c (subst (λ cs. IsIn c (map clause_of cs)) (sym (take_whole k cs h)) i)
