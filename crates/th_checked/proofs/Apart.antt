-- Where no rule of the first stage fails, the interfaces of a program have different names.
use Rattle.std.proofs.Common.{◌≡◌, ℕ, ◌+◌, Bool, true, false, not, List, [], ◌∷◌, ◌++◌, map, None, refl, sym, ap, ◌∙◌, subst, append_assoc, append-nil, true≢false, inl, inr, if◌then◌else◌}
use Rattle.th_tree.specs.Trees.{InterfaceSyn}
use Rattle.th_type.specs.declared.place.Failure.{Failure}
use Rattle.th_type.specs.Failures.{failure, unless, IsLeastOf}
use Rattle.th_type.specs.Lists.{IsIn}
use Rattle.th_type.proofs.Members.{in_left, in_right, from_append}
use Rattle.th_hier.specs.declared.spot.Spot.{Spot}
use Rattle.th_hier.specs.Naming.{has, with_numbers, different}
use Rattle.th_hier.specs.Spots.{repeats, interface_spots}
use Rattle.th_module_rules.specs.Stages.{Program, FailsFirst, interface_trees, placed}
use Rattle.th_checked.specs.Reaching.{tree_names}
use Rattle.th_checked.proofs.Reaching.{has_member, member, from_one}

-- numbers that differ
abbrev pub Apart : List ℕ → Type 0
Apart [] = Unit {0}
Apart (n ∷ ns) = (¬ IsIn n ns) × Apart ns

-- none of the numbers was seen
abbrev pub New : List ℕ → List ℕ → Type 0
New seen ns = (n : ℕ) → IsIn n ns → ¬ IsIn n seen

abbrev spot_names : List Spot → List ℕ
spot_names ss = map (λ s. s.name) ss

not_seen : (seen : List ℕ) (n : ℕ) → has seen n ≡ false → ¬ IsIn n seen
not_seen seen n h i = true≢false (sym (has_member seen n i) ∙ h)

-- what is not among numbers
pub has_not : (seen : List ℕ) (n : ℕ) (b : Bool) → has seen n ≡ b → (¬ IsIn n seen) → has seen n ≡ false
has_not seen n true h lacks = absurd (lacks (member seen n h))
has_not seen n false h lacks = h

abbrev Differ : ℕ → List ℕ → List Spot → Type 0
Differ rule seen ss = ((f : Failure) → ¬ IsIn f (repeats rule seen ss)) → Apart (spot_names ss) × New seen (spot_names ss)

differ_by : (rule : ℕ) (seen : List ℕ) (s : Spot) (ss : List Spot) (b : Bool) → has seen s.name ≡ b
    → ((seen' : List ℕ) → Differ rule seen' ss)
    → ((f : Failure) → ¬ IsIn f (unless (not b) rule s.place ++ repeats rule (if b then seen else seen ++ s.name ∷ []) ss)) → Apart (spot_names (s ∷ ss)) × New seen (spot_names (s ∷ ss))
differ_by rule seen s ss true h rest none = absurd (none (failure rule s.place) (inl refl))
differ_by rule seen s ss false h rest none = (((λ i. r.1 s.name i (in_right s.name seen (s.name ∷ []) (inl refl))), r.0), new)
  where
    r : Apart (spot_names ss) × New (seen ++ s.name ∷ []) (spot_names ss)
    r = rest (seen ++ s.name ∷ []) none

    new : (n : ℕ) → IsIn n (spot_names (s ∷ ss)) → ¬ IsIn n seen
    new n (inl e) i = not_seen seen s.name h (subst (λ (k : ℕ). IsIn k seen) e i)
    new n (inr m) i = r.1 n m (in_left n seen (s.name ∷ []) i)

differ : (rule : ℕ) (ss : List Spot) (seen : List ℕ) → Differ rule seen ss
differ rule [] seen none = (tt, λ n h. absurd h)
differ rule (s ∷ ss) seen none = differ_by rule seen s ss (has seen s.name) refl (differ rule ss) none

spots_are : (k : ℕ) (fs : List InterfaceSyn) → spot_names (interface_spots k fs) ≡ tree_names fs
spots_are k [] = refl
spots_are k (f ∷ fs) = ap (λ (ns : List ℕ). f.name.name ∷ ns) (spots_are (k + 1) fs)

pub names_apart : (p : Program) → IsLeastOf (FailsFirst p) None → Apart (tree_names (interface_trees p))
names_apart p none =
    subst Apart (spots_are 0 (interface_trees p)) (differ 1 (interface_spots 0 (interface_trees p)) [] (λ f h. none (placed p f) (f, inl (in_left f _ _ h), refl))).0

same_by : (seen : List ℕ) (n : ℕ) (b : Bool) → has seen n ≡ b → (¬ IsIn n seen) → (if b then seen else seen ++ n ∷ []) ≡ seen ++ n ∷ []
same_by seen n true h lacks = absurd (lacks (member seen n h))
same_by seen n false h lacks = refl

-- numbers that differ and are new are added as they are
added_as : (seen ns : List ℕ) → Apart ns → New seen ns → with_numbers seen ns ≡ seen ++ ns
added_as seen [] apart new = sym (append-nil seen)
added_as seen (n ∷ ns) apart new =
    ap (λ (l : List ℕ). with_numbers l ns) (same_by seen n (has seen n) refl (new n (inl refl)))
    ∙ added_as (seen ++ n ∷ []) ns apart.1 (λ m i j. elim (from_append m seen (n ∷ []) j) [ inl a ↦ new m (inr i) a | inr b ↦ apart.0 (subst (λ (k : ℕ). IsIn k ns) (from_one m n b) i) ])
    ∙ append_assoc seen (n ∷ []) ns

pub different_as : (ns : List ℕ) → Apart ns → different ns ≡ ns
different_as ns apart = added_as [] ns apart (λ n i h. h)
