-- The least of failures that are found one after another.
use Rattle.std.proofs.Common.{◌≡◌, ◌↔◌, ◌∙◌, ◌≤◌, ℕ, zero, suc, length, take, Bool, true, false, not, List, [], ◌∷◌, ◌++◌, Option, Some, None, refl, ap, sym, subst, ◌⊎◌, inl, inr, arith, IsTrue, true≢false}
use Rattle.th_tree.specs.Trees.{SigSyn, MethodSyn}
use Rattle.th_type.specs.declared.place.Place.{Place}
use Rattle.th_type.specs.declared.place.Failure.{Failure}
use Rattle.th_type.specs.Failures.{IsLeastOf, UpTo, failure, lowest, place, unless}
use Rattle.th_type.specs.Signatures.{Signature}
use Rattle.th_type.proofs.Least.{least_alike, least_lower, up_to_self}
use Rattle.th_type.proofs.Members.{from_append, in_left, in_right}
use Rattle.th_rules.specs.Context.{ClassInfo, Context}
use Rattle.th_module_rules.specs.ClassRules.{OwnFits}
use Rattle.th_overrides.specs.Judging.{FailsToo, MethodsFail}

some_is : {A : Type 0} (a b : A) → Some a ≡ Some b → a ≡ b
some_is a b h = cc

none_some : {A : Type 0} (a : A) → None ≡ Some a → ⊥
none_some a h = cc

up_to_trans : (f g h : Failure) → UpTo f g → UpTo g h → UpTo f h
up_to_trans f g h a b = grind arith

-- nothing more is found
pub least_same : (P : Failure → Type 0) (o : Option Failure) → ((f : Failure) → P f → ⊥) → IsLeastOf (FailsToo o P) o
least_same P None n = λ g h. elim h [ inl e ↦ none_some g e | inr p ↦ n g p ]
least_same P (Some f) n = (inl refl, λ g h. elim h [ inl e ↦ subst (UpTo f) (some_is f g e) (up_to_self f) | inr p ↦ absurd (n g p) ])

-- one failure more, where something is not as it must be
pub least_one : (P : Type 0) (old new : Option Failure) (rule : ℕ) (p : Place) (b : Bool) → IsTrue b ↔ P → new ≡ lowest old (unless (not b) rule p) → IsLeastOf (FailsToo old (λ f. P × (f ≡ failure rule p))) new
least_one P old new rule p true d e =
    subst (IsLeastOf (FailsToo old (λ f. P × (f ≡ failure rule p)))) (sym e)
    (least_alike (λ g. FailsToo old (λ f. ⊥) g ⊎ (g ≡ failure rule p)) (FailsToo old (λ f. P × (f ≡ failure rule p))) (lowest old (failure rule p ∷ []))
    (λ g h. elim h [ inl a ↦ elim a [ inl o ↦ inl o | inr n ↦ absurd n ] | inr s ↦ inr (d.0 refl, s) ])
    (λ g h. elim h [ inl o ↦ inl (inl o) | inr q ↦ inr q.1 ])
    (least_lower (FailsToo old (λ f. ⊥)) old (failure rule p) (least_same (λ f. ⊥) old (λ f n. n))))
least_one P old new rule p false d e =
    subst (IsLeastOf (FailsToo old (λ f. P × (f ≡ failure rule p)))) (sym e) (least_same (λ f. P × (f ≡ failure rule p)) old (λ f q. true≢false (sym (d.1 q.0))))

after_none : (old new : Option Failure) (P Q : Failure → Type 0) → IsLeastOf (FailsToo old P) None → IsLeastOf (FailsToo None Q) new → IsLeastOf (FailsToo old (λ f. P f ⊎ Q f)) new
after_none old None P Q a b = λ g h. elim h [ inl o ↦ a g (inl o) | inr q ↦ elim q [ inl p ↦ a g (inr p) | inr r ↦ b g (inr r) ] ]
after_none old (Some f) P Q a b = (
  elim b.0 [ inl e ↦ absurd (none_some f e) | inr q ↦ inr (inr q) ],
  λ g h. elim h [ inl o ↦ absurd (a g (inl o)) | inr q ↦ elim q [ inl p ↦ absurd (a g (inr p)) | inr r ↦ b.1 g (inr r) ] ],
)

after_some : (old new : Option Failure) (k : Failure) (P Q : Failure → Type 0) → IsLeastOf (FailsToo old P) (Some k) → IsLeastOf (FailsToo (Some k) Q) new → IsLeastOf (FailsToo old (λ f. P f ⊎ Q f)) new
after_some old None k P Q a b = absurd (b k (inl refl))
after_some old (Some f) k P Q a b = (
  elim b.0 [
    | inl e ↦ subst (FailsToo old (λ f. P f ⊎ Q f)) (some_is k f e) (elim a.0 [ inl o ↦ inl o | inr p ↦ inr (inl p) ])
    | inr q ↦ inr (inr q)
  ],
  λ g h. elim h [
    | inl o ↦ up_to_trans f k g (b.1 k (inl refl)) (a.1 g (inl o))
    | inr q ↦ elim q [ inl p ↦ up_to_trans f k g (b.1 k (inl refl)) (a.1 g (inr p)) | inr r ↦ b.1 g (inr r) ]
  ],
)

-- failures found after others
pub least_after : (old mid new : Option Failure) (P Q : Failure → Type 0) → IsLeastOf (FailsToo old P) mid → IsLeastOf (FailsToo mid Q) new → IsLeastOf (FailsToo old (λ f. P f ⊎ Q f)) new
least_after old None new P Q a b = after_none old new P Q a b
least_after old (Some k) new P Q a b = after_some old new k P Q a b

-- one more method
pub methods_more : (C : Context) (sig : SigSyn → Signature) (c : ClassInfo) (ms : List MethodSyn) (m : MethodSyn) (old mid new : Option Failure) (b : Bool) → IsLeastOf (FailsToo old (MethodsFail C sig c ms)) mid
    → IsTrue b ↔ OwnFits C c (sig m.sig) → new ≡ lowest mid (unless b 14 (place C.text m.sig.name.at)) → IsLeastOf (FailsToo old (MethodsFail C sig c (ms ++ m ∷ []))) new
methods_more C sig c ms m old mid new true a d e =
    subst (IsLeastOf (FailsToo old (MethodsFail C sig c (ms ++ m ∷ [])))) (sym e)
    (least_alike (FailsToo old (MethodsFail C sig c ms)) (FailsToo old (MethodsFail C sig c (ms ++ m ∷ []))) mid
    (λ g h. elim h [ inl o ↦ inl o | inr q ↦ inr (q.0, in_left q.0 ms (m ∷ []) q.1, q.2, q.3) ])
    (λ g h. elim h [
      | inl o ↦ inl o
      | inr q ↦ elim (from_append q.0 ms (m ∷ []) q.1) [
        | inl i ↦ inr (q.0, i, q.2, q.3)
        | inr i ↦ elim i [ inl s ↦ absurd (q.2 (subst (λ (x : MethodSyn). OwnFits C c (sig x.sig)) (sym s) (d.0 refl))) | inr n ↦ absurd n ]
      ]
    ]) a)
methods_more C sig c ms m old mid new false a d e =
    subst (IsLeastOf (FailsToo old (MethodsFail C sig c (ms ++ m ∷ [])))) (sym e)
    (least_alike (λ g. FailsToo old (MethodsFail C sig c ms) g ⊎ (g ≡ failure 14 (place C.text m.sig.name.at))) (FailsToo old (MethodsFail C sig c (ms ++ m ∷ []))) (lowest mid (failure 14 (place C.text m.sig.name.at) ∷ []))
    (λ g h. elim h [
      | inl f ↦ elim f [ inl o ↦ inl o | inr q ↦ inr (q.0, in_left q.0 ms (m ∷ []) q.1, q.2, q.3) ]
      | inr s ↦ inr (m, in_right m ms (m ∷ []) (inl refl), (λ x. true≢false (sym (d.1 x))), s)
    ])
    (λ g h. elim h [
      | inl o ↦ inl (inl o)
      | inr q ↦ elim (from_append q.0 ms (m ∷ []) q.1) [
        | inl i ↦ inl (inr (q.0, i, q.2, q.3))
        | inr i ↦ elim i [ inl s ↦ inr (q.3 ∙ ap (λ (x : MethodSyn). failure 14 (place C.text x.sig.name.at)) s) | inr n ↦ absurd n ]
      ]
    ])
    (least_lower (FailsToo old (MethodsFail C sig c ms)) mid (failure 14 (place C.text m.sig.name.at)) a))

pub take_all : {A : Type 0} (xs : List A) (k : ℕ) → length xs ≤ k → take k xs ≡ xs
take_all [] zero l = refl
take_all [] (suc k) l = refl
take_all (x ∷ xs) zero l = absurd (omega (arith, l))
take_all (x ∷ xs) (suc k) l = ap (λ ys. x ∷ ys) (take_all xs k (omega (arith, l)))
