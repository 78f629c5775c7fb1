-- The failure that is named, of the failures of the rules on names and of those of the rule on supertypes.
use Rattle.std.proofs.Common.{◌≡◌, ◌<◌, ◌≤◌, List, Option, Some, None, refl, ◌⊎◌, inl, inr, subst, arith}
use Rattle.th_tree.specs.Trees.{InterfaceSyn}
use Rattle.th_type.specs.declared.place.Failure.{Failure}
use Rattle.th_type.specs.Failures.{lowest, UpTo, IsLeastOf}
use Rattle.th_type.specs.Lists.{IsIn}
use Rattle.th_type.specs.Declarations.{Declaration}
use Rattle.th_type.specs.Rules.{SupertypesFail, IsNamed, NoneFails}
use Rattle.th_hier.specs.Naming.{Items}
use Rattle.th_hier.specs.Texts.{names_fail, declarations}
use Rattle.th_hier.specs.Hierarchies.{NoRuleFails, IsRefusal}
use Rattle.th_hier.proofs.Exact.{lowest_least}

at_trans : (a b c : Failure) → (a.place.at < b.place.at) ⊎ ((a.place.at ≡ b.place.at) × (a.rule ≤ b.rule)) → (b.place.at < c.place.at) ⊎ ((b.place.at ≡ c.place.at) × (b.rule ≤ c.rule))
    → (a.place.at < c.place.at) ⊎ ((a.place.at ≡ c.place.at) × (a.rule ≤ c.rule))
at_trans a b c (inl p) (inl q) = inl (omega arith)
at_trans a b c (inl p) (inr q) = inl (omega arith)
at_trans a b c (inr p) (inl q) = inl (omega arith)
at_trans a b c (inr p) (inr q) = inr (omega arith, omega arith)

up_trans : (a b c : Failure) → UpTo a b → UpTo b c → UpTo a c
up_trans a b c (inl p) (inl q) = inl (omega arith)
up_trans a b c (inl p) (inr q) = inl (omega arith)
up_trans a b c (inr p) (inl q) = inl (omega arith)
up_trans a b c (inr p) (inr q) = inr (omega arith, at_trans a b c p.1 q.1)

-- the failures of a collection and of another, where the least of the first is kept
kept_some : (P S : Failure → Type 0) (o : Option Failure) (f : Failure) → IsLeastOf P o → IsLeastOf (λ g. (o ≡ Some g) ⊎ S g) (Some f) → IsLeastOf (λ g. P g ⊎ S g) (Some f)
kept_some P S None f l h = (
  elim h.0 [ inl e ↦ absurd (cc) | inr s ↦ inr s ],
  λ g q. elim q [ inl p ↦ absurd (l g p) | inr s ↦ h.1 g (inr s) ],
)
kept_some P S (Some k) f l h = (
  elim h.0 [ inl e ↦ let s : k ≡ f = cc in inl (subst P s l.0) | inr s ↦ inr s ],
  λ g q. elim q [ inl p ↦ up_trans f k g (h.1 k (inl refl)) (l.1 g p) | inr s ↦ h.1 g (inr s) ],
)

kept_none : (P S : Failure → Type 0) (o : Option Failure) → IsLeastOf P o → IsLeastOf (λ g. (o ≡ Some g) ⊎ S g) None → IsLeastOf (λ g. P g ⊎ S g) None
kept_none P S None l h = λ g q. elim q [ inl p ↦ l g p | inr s ↦ h g (inr s) ]
kept_none P S (Some k) l h = λ g q. h k (inl refl)

-- what the lattice refuses is what is refused
pub refusal : (items : Items) (fs : List InterfaceSyn) (ds : List Declaration) (o : Option Failure) (f : Failure) → ds ≡ declarations items fs → o ≡ lowest None (names_fail items fs)
    → IsNamed ds o f → IsRefusal items fs f.rule f.place
refusal items fs ds o f d e n =
    let l = lowest_least (names_fail items fs) o e in
    elim (subst (λ (xs : List Declaration). IsNamed xs o f) d n) [
      | inl a ↦ inl (kept_some (λ g. IsIn g (names_fail items fs)) (SupertypesFail (declarations items fs)) o f l a)
      | inr b ↦ inr (kept_none (λ g. IsIn g (names_fail items fs)) (SupertypesFail (declarations items fs)) o l b.0, b.1)
    ]

-- where the lattice finds no failure no rule fails
pub acceptance : (items : Items) (fs : List InterfaceSyn) (ds : List Declaration) (o : Option Failure) → ds ≡ declarations items fs → o ≡ lowest None (names_fail items fs)
    → NoneFails ds o → NoRuleFails items fs
acceptance items fs ds o d e n =
    let l = lowest_least (names_fail items fs) o e in
    let m = subst (λ (xs : List Declaration). NoneFails xs o) d n in
    (kept_none (λ g. IsIn g (names_fail items fs)) (SupertypesFail (declarations items fs)) o l m.0, m.1)
