-- What stands for clauses.
use Rattle.std.proofs.Common.{◌≡◌, ◌∙◌, ℕ, zero, suc, ◌+◌, ◌<◌, ◌≤◌, ◌↔◌, Bool, true, false, List, [], ◌∷◌, ◌++◌, length, map, take, get_or, slice_get, Option, Some, None, refl, ap, sym, subst, inl, inr, arith, IsTrue, MatchOption}
use Rattle.std.proofs.lemmas.List.{map-append, take_more}
use Rattle.th_type.specs.declared.sig.Supply.{Supply}
use Rattle.th_type.specs.declared.sig.Clause.{Clause}
use Rattle.th_type.specs.Lists.{IsIn}
use Rattle.th_type.specs.Types.{TypeExpr}
use Rattle.th_type.specs.Signatures.{Signature, Constraint, clause_of, subst_sig}
use Rattle.th_type.specs.Methods.{ExactlyConforms}
use Rattle.th_type.proofs.Members.{from_append, at_in}
use Rattle.th_where.specs.declared.candidates.Candidate.{Candidate}
use Rattle.th_where.specs.declared.candidates.CandidateList.{CandidateList}
use Rattle.th_where.specs.Supplies.{Offer, offer_of, offers_of, all_offers, IsFound, StandFor, StandsFor, FirstMissing}

pub fits_by : (w : Signature) (x : Offer) (r : Bool) → x.sig.method ≡ w.method → IsTrue r ↔ ExactlyConforms x.sig w → IsTrue r ↔ IsFound w x
fits_by w x r e c = ((λ t. record { method = e; conforms = c.0 t }), (λ f. c.1 f.conforms))

pub fits_not : (w : Signature) (x : Offer) → (x.sig.method ≡ w.method → ⊥) → IsTrue false ↔ IsFound w x
fits_not w x h = ((λ t. absurd (cc)), (λ f. absurd (h f.method)))

at_get : {A B : Type 0} (f : A → B) (xs : List A) (k : ℕ) (d : A) → k < length xs → d ≡ get_or xs k d → slice_get (map f xs) k ≡ Some (f d)
at_get f [] k d h e = absurd (omega (arith, h))
at_get f (x ∷ xs) zero d h e = ap (λ y. Some (f y)) (sym e)
at_get f (x ∷ xs) (suc k) d h e = at_get f xs k d (omega (arith, h)) e

pub found_at : (w : Signature) (cs : List Candidate) (k : ℕ) (d : Candidate) (r : Bool) → k < length cs → d ≡ get_or cs k d → IsTrue r ↔ IsFound w (offer_of d) → r ≡ true → (x : Offer) × IsIn x (offers_of cs) × IsFound w x × (d.supply ≡ x.supply)
found_at w cs k d r h e c t = (offer_of d, at_in (offer_of d) (offers_of cs) k (at_get offer_of cs k d h e), c.0 t, refl)

pub none_more : (w : Signature) (cs : List Candidate) (k : ℕ) (d : Candidate) (r : Bool) → k < length cs → d ≡ get_or cs k d → IsTrue r ↔ IsFound w (offer_of d) → r ≡ false → ((x : Offer) → IsIn x (offers_of (take k cs)) → ¬ IsFound w x) → (x : Offer) → IsIn x (offers_of (take (k + 1) cs)) → ¬ IsFound w x
none_more w cs k d r h e c f n x i g =
    let q : offers_of (take (k + 1) cs) ≡ offers_of (take k cs) ++ offer_of d ∷ [] = ap offers_of (take_more cs k d h) ∙ map-append offer_of (take k cs) (get_or cs k d ∷ []) ∙ ap (λ (y : Candidate). offers_of (take k cs) ++ offer_of y ∷ []) (sym e) in
    elim (from_append x (offers_of (take k cs)) (offer_of d ∷ []) (subst (λ xs. IsIn x xs) q i)) [
      | inl j ↦ n x j g
      | inr j ↦ elim j [ inl s ↦ (let z : r ≡ true = c.1 (subst (λ x. IsFound w x) s g) in absurd (cc)) | inr z ↦ absurd z ]
    ]

-- what a clause's list of candidates offers
pub stands_some : (ls : List CandidateList) (args : List TypeExpr) (c : Constraint) (l : CandidateList) (cs : List Candidate) (w : Signature) (s : Supply) → c.param < length ls → l ≡ get_or ls c.param l → cs ≡ l.candidates.items → w ≡ subst_sig args c.sig
    → (x : Offer) × IsIn x (offers_of cs) × IsFound w x × (s ≡ x.supply) → StandsFor (all_offers ls) args c s
stands_some ls args c l cs w s h e f g (x, i, p, q) =
    (offers_of l.candidates.items, x, at_get (λ (l : CandidateList). offers_of l.candidates.items) ls c.param l h e, subst (λ cs. IsIn x (offers_of cs)) f i, subst (λ w. IsFound w x) g p, q)

pub stands_none : (ls : List CandidateList) (args : List TypeExpr) (c : Constraint) (l : CandidateList) (cs : List Candidate) (w : Signature) → c.param < length ls → l ≡ get_or ls c.param l → cs ≡ l.candidates.items → w ≡ subst_sig args c.sig
    → ((x : Offer) → IsIn x (offers_of cs) → ¬ IsFound w x) → (s : Supply) → ¬ StandsFor (all_offers ls) args c s
stands_none ls args c l cs w h e f g n s (xs, x, a, i, p, q) =
    let b = at_get (λ (l : CandidateList). offers_of l.candidates.items) ls c.param l h e in
    let xs_is : xs ≡ offers_of cs = (let z : xs ≡ offers_of l.candidates.items = cc in z ∙ ap offers_of (sym f)) in
    n x (subst (λ xs. IsIn x xs) xs_is i) (subst (λ w. IsFound w x) (sym g) p)

stand_append : (ls : List (List Offer)) (args : List TypeExpr) (cs : List Constraint) (ss : List Supply) (c : Constraint) (s : Supply) → StandFor ls args cs ss → StandsFor ls args c s → StandFor ls args (cs ++ c ∷ []) (ss ++ s ∷ [])
stand_append ls args [] [] c s h g = (g, tt)
stand_append ls args [] (x ∷ ss) c s h g = absurd h
stand_append ls args (d ∷ cs) [] c s h g = absurd h
stand_append ls args (d ∷ cs) (x ∷ ss) c s h g = (h.0, stand_append ls args cs ss c s h.1 g)

stand_at : (ls : List (List Offer)) (args : List TypeExpr) (cs : List Constraint) (ss : List Supply) (j : ℕ) (c : Constraint) → StandFor ls args cs ss → slice_get cs j ≡ Some c → (s : Supply) × StandsFor ls args c s
stand_at ls args [] ss j c h e = cc
stand_at ls args (d ∷ cs) [] j c h e = absurd h
stand_at ls args (d ∷ cs) (x ∷ ss) zero c h e = let q : d ≡ c = cc in (x, subst (λ c. StandsFor ls args c x) q h.0)
stand_at ls args (d ∷ cs) (x ∷ ss) (suc j) c h e = stand_at ls args cs ss j c h.1 e

pub stand_more : (ls : List (List Offer)) (args : List TypeExpr) (cs : List Clause) (k : ℕ) (d : Clause) (ss ts : List Supply) (s : Supply) → k < length cs → d ≡ get_or cs k d → StandFor ls args (map clause_of (take k cs)) ss → StandsFor ls args (clause_of d) s → ts ≡ ss ++ s ∷ [] → StandFor ls args (map clause_of (take (k + 1) cs)) ts
stand_more ls args cs k d ss ts s h e a b f =
    let q : map clause_of (take (k + 1) cs) ≡ map clause_of (take k cs) ++ clause_of d ∷ [] = ap (map clause_of) (take_more cs k d h) ∙ map-append clause_of (take k cs) (get_or cs k d ∷ []) ∙ ap (λ (y : Clause). map clause_of (take k cs) ++ clause_of y ∷ []) (sym e) in
    subst (λ xs. StandFor ls args xs ts) (sym q) (subst (λ ts. StandFor ls args (map clause_of (take k cs) ++ clause_of d ∷ []) ts) (sym f) (stand_append ls args (map clause_of (take k cs)) ss (clause_of d) s a b))

get_take : {A B : Type 0} (f : A → B) (xs : List A) (k j : ℕ) (y : B) → j < k → slice_get (map f xs) j ≡ Some y → slice_get (map f (take k xs)) j ≡ Some y
get_take f [] k j y h e = cc
get_take f (x ∷ xs) zero j y h e = absurd (omega (arith, h))
get_take f (x ∷ xs) (suc k) zero y h e = e
get_take f (x ∷ xs) (suc k) (suc j) y h e = get_take f xs k j y (omega (arith, h)) e

pub first_missing : (ls : List (List Offer)) (args : List TypeExpr) (cs : List Clause) (k : ℕ) (d : Clause) (ss : List Supply) → k < length cs → d ≡ get_or cs k d → StandFor ls args (map clause_of (take k cs)) ss → ((s : Supply) → ¬ StandsFor ls args (clause_of d) s) → FirstMissing ls args (map clause_of cs) k
first_missing ls args cs k d ss h e a n =
    ((clause_of d, at_get clause_of cs k d h e, n), (λ j c l g. stand_at ls args (map clause_of (take k cs)) ss j c a (get_take clause_of cs k j c l g)))

pub param_below : (cs : List Clause) (k : ℕ) (d : Clause) (n : ℕ) → ((c : Constraint) → IsIn c (map clause_of cs) → c.param < n) → k < length cs → d ≡ get_or cs k d → d.param < n
param_below cs k d n p h e = p (clause_of d) (at_in (clause_of d) (map clause_of cs) k (at_get clause_of cs k d h e))

pub stands_option : (ls : List CandidateList) (args : List TypeExpr) (c : Constraint) (l : CandidateList) (cs : List Candidate) (w : Signature) → c.param < length ls → l ≡ get_or ls c.param l → cs ≡ l.candidates.items → w ≡ subst_sig args c.sig
    → (r : Option Supply) → MatchOption r ((x : Offer) → IsIn x (offers_of cs) → ¬ IsFound w x) (λ s. (x : Offer) × IsIn x (offers_of cs) × IsFound w x × (s ≡ x.supply)) → MatchOption r ((s : Supply) → ¬ StandsFor (all_offers ls) args c s) (λ s. StandsFor (all_offers ls) args c s)
stands_option ls args c l cs w h e f g None m = stands_none ls args c l cs w h e f g m
stands_option ls args c l cs w h e f g (Some s) m = stands_some ls args c l cs w s h e f g m

take_whole : {A : Type 0} (k : ℕ) (xs : List A) → length xs ≤ k → take k xs ≡ xs
take_whole zero [] h = refl
take_whole (suc k) [] h = refl
take_whole zero (x ∷ xs) h = absurd (omega (arith, h))
take_whole (suc k) (x ∷ xs) h = ap (λ ys. x ∷ ys) (take_whole k xs (omega (arith, h)))

pub none_at_all : (w : Signature) (cs : List Candidate) (k : ℕ) → length cs ≤ k → ((x : Offer) → IsIn x (offers_of (take k cs)) → ¬ IsFound w x) → (x : Offer) → IsIn x (offers_of cs) → ¬ IsFound w x
none_at_all w cs k h n x i = n x (subst (λ cs. IsIn x (offers_of cs)) (sym (take_whole k cs h)) i)
