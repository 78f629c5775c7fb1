-- The failure that is found first in order is the least, and where none is found there is a type.
use Rattle.std.proofs.Common.{◌≡◌, List, [], ◌∷◌, Bool, true, false, if◌then◌else◌, Option, Some, None, is_some, refl, sym, ap, ◌∙◌, subst, ◌⊎◌, inl, inr}
use Rattle.th_type.specs.declared.place.Failure.{Failure}
use Rattle.th_type.specs.Lists.{IsIn}
use Rattle.th_type.specs.Failures.{before, lowest, none_of, IsLeastOf}
use Rattle.th_type.specs.declared.place.Place.{Place}
use Rattle.th_type.proofs.Least.{least_alike, least_lowest}
use Rattle.th_tree.specs.Trees.{ExprSyn}
use Rattle.th_rules.specs.Context.{Binding, Context}
use Rattle.th_rules.specs.Callees.{as_call, wished}
use Rattle.th_rules.specs.Typing.{typed, typed_call}
use Rattle.th_rules.specs.Failing.{fails, call_fails}
use Rattle.th_rules.specs.AllTyped.{AllTyped}
use Rattle.th_rules.proofs.NoFailure.{law, call_law}

-- the least of the list, where there is one
pub is_least : (fs : List Failure) (o : Option Failure) → o ≡ lowest None fs → IsLeastOf (λ g. IsIn g fs) o
is_least fs o e = subst (λ p. IsLeastOf (λ g. IsIn g fs) p) (sym e)
    (least_alike (λ g. ⊥ ⊎ IsIn g fs) (λ g. IsIn g fs) (lowest None fs) (λ g i. elim i [ inl j ↦ absurd j | inr j ↦ j ]) (λ g i. inr i)
    (least_lowest (λ g. ⊥) None fs (λ g i. i)))

-- of two failures, whichever is kept
either_stays : (f g : Failure) (fs : List Failure) (b : Bool) → is_some (lowest (Some f) fs) ≡ true → is_some (lowest (Some g) fs) ≡ true → is_some (lowest (if b then Some g else Some f) fs) ≡ true
either_stays f g fs true p q = q
either_stays f g fs false p q = p

-- what was lowered to is there
stays : (f : Failure) (fs : List Failure) → is_some (lowest (Some f) fs) ≡ true
stays f [] = refl
stays f (g ∷ fs) = either_stays f g fs (before g f) (stays f fs) (stays g fs)

-- where none is found there is none
none_found : (fs : List Failure) → lowest None fs ≡ None → none_of fs ≡ true
none_found [] e = refl
none_found (f ∷ fs) e = let s : is_some (lowest (Some f) fs) ≡ true = stays f fs in let n : is_some (lowest (Some f) fs) ≡ false = ap is_some e in cc

-- where nothing fails there is a type
pub expr_not_refused : (C : Context) (ls : List Binding) (e : ExprSyn) → AllTyped ls → lowest None (fails C ls e) ≡ None → typed C ls e ≡ None → ⊥
expr_not_refused C ls e t h k =
    let n : is_some (typed C ls e) ≡ true = sym (law C ls e t) ∙ none_found (fails C ls e) h in
    let i : is_some (typed C ls e) ≡ false = ap is_some k in
    cc

-- where nothing fails there is a call
pub call_not_refused : (C : Context) (ls : List Binding) (q : Place) (e : ExprSyn) → AllTyped ls → lowest None (call_fails C ls as_call q e) ≡ None → typed_call C ls e ≡ None → ⊥
call_not_refused C ls q e t h k =
    let n : is_some (wished as_call (typed_call C ls e)) ≡ true = sym (call_law C ls as_call q e t) ∙ none_found (call_fails C ls as_call q e) h in
    let i : is_some (wished as_call (typed_call C ls e)) ≡ false = ap (λ o. is_some (wished as_call o)) k in
    cc
