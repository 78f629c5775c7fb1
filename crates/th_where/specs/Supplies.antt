-- What stands for the where-clauses of an item at a call.
use Rattle.std.specs.Prelude.{◌≡◌, ℕ, ◌<◌, List, [], ◌∷◌, map, slice_get, Some}
use Rattle.th_type.specs.declared.sig.Supply.{Supply}
use Rattle.th_type.specs.Lists.{IsIn}
use Rattle.th_type.specs.Types.{TypeExpr}
use Rattle.th_type.specs.Signatures.{Signature, Constraint, sig_of, subst_sig}
use Rattle.th_type.specs.Methods.{ExactlyConforms}
use Rattle.th_where.specs.declared.candidates.Candidate.{Candidate}
use Rattle.th_where.specs.declared.candidates.CandidateList.{CandidateList}

-- a method that a type argument has, and what stands for it
pub record Offer : Type 0 where
  pub sig : Signature
  pub supply : Supply

-- the code's candidate
abbrev pub offer_of : Candidate → Offer
offer_of c = record { sig = sig_of c.sig; supply = c.supply }

-- the code's candidates
abbrev pub offers_of : List Candidate → List Offer
offers_of cs = map offer_of cs

-- the code's lists of candidates
abbrev pub all_offers : List CandidateList → List (List Offer)
all_offers ls = map (λ l. offers_of l.candidates.items) ls

-- x has the method of the wanted signature, and exactly conforms to it
pub record IsFound (wanted : Signature) (x : Offer) : Type 0 where
  pub method : x.sig.method ≡ wanted.method
  pub conforms : ExactlyConforms x.sig wanted

-- s stands for the clause: it is the supply of an offer of the clause's parameter that has the clause's method and exactly
-- conforms to it after substitution
abbrev pub StandsFor : List (List Offer) → List TypeExpr → Constraint → Supply → Type 0
StandsFor offers args c s = (xs : List Offer) × (x : Offer) × (slice_get offers c.param ≡ Some xs) × IsIn x xs × IsFound (subst_sig args c.sig) x × (s ≡ x.supply)

-- the supplies stand for the clauses, in order
abbrev pub StandFor : List (List Offer) → List TypeExpr → List Constraint → List Supply → Type 0
StandFor offers args [] [] = Unit {0}
StandFor offers args [] (s ∷ ss) = ⊥
StandFor offers args (c ∷ cs) [] = ⊥
StandFor offers args (c ∷ cs) (s ∷ ss) = StandsFor offers args c s × StandFor offers args cs ss

-- the clause at place k is the first for which nothing stands
abbrev pub FirstMissing : List (List Offer) → List TypeExpr → List Constraint → ℕ → Type 0
FirstMissing offers args cs k =
    ((c : Constraint) × (slice_get cs k ≡ Some c) × ((s : Supply) → ¬ StandsFor offers args c s))
    × ((j : ℕ) (c : Constraint) → j < k → slice_get cs j ≡ Some c → (s : Supply) × StandsFor offers args c s)
