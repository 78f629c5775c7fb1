-- A refusal names the least failure, and there is one.
use Rattle.std.proofs.Common.{◌≡◌, Bool, true, false, List, [], ◌∷◌, ◌++◌, Option, Some, None, is_some, refl, sym, ◌∙◌, ap, length, true≢false, subst, ◌⊎◌, inl, inr, if◌then◌else◌}
use Rattle.th_tree.specs.Trees.{BodySyn}
use Rattle.th_type.specs.declared.place.Failure.{Failure}
use Rattle.th_type.specs.Lists.{IsIn}
use Rattle.th_type.specs.Failures.{lower, lowest, none_of, before, IsLeastOf}
use Rattle.th_type.proofs.Least.{least_lowest, least_alike}
use Rattle.th_meaning.specs.Trees.{BodyTree}
use Rattle.th_rules.specs.Context.{Binding, Context}
use Rattle.th_rules.specs.AllTyped.{AllTyped}
use Rattle.th_stmt_rules.specs.Bodies.{body_core, where_true}
use Rattle.th_stmt_rules.specs.Failing.{body_fails}
use Rattle.th_stmt_rules.specs.Raising.{body_raises}
use Rattle.th_stmt_rules.specs.Units.{unit_fails, unit_core}
use Rattle.th_expr.specs.Refusals.{IsLeastFailure}
use Rattle.th_stmt_rules.proofs.NoFailure.{unit_law}

kept_if : (f g : Failure) (b : Bool) → is_some (if b then Some f else Some g) ≡ true
kept_if f g true = refl
kept_if f g false = refl

lower_kept : (o : Option Failure) (f : Failure) → is_some (lower o f) ≡ true
lower_kept None f = refl
lower_kept (Some g) f = kept_if f g (before f g)

kept : (o : Option Failure) (fs : List Failure) → is_some o ≡ true → is_some (lowest o fs) ≡ true
kept o [] h = h
kept o (f ∷ fs) h = kept (lower o f) fs (lower_kept o f)

-- nothing is kept where there is no failure alone
none_lowest : (fs : List Failure) → lowest None fs ≡ None → none_of fs ≡ true
none_lowest [] h = refl
none_lowest (f ∷ fs) h = absurd (true≢false (sym (kept (Some f) fs refl) ∙ ap is_some h))

lowest_none : (fs : List Failure) → none_of fs ≡ true → lowest None fs ≡ None
lowest_none [] h = refl
lowest_none (f ∷ fs) h = absurd (true≢false (sym h))

-- what is kept is the least
least_of : (fs : List Failure) (f : Failure) → lowest None fs ≡ Some f → IsLeastOf (λ g. IsIn g fs) (Some f)
least_of fs f h =
    subst (λ (o : Option Failure). IsLeastOf (λ g. IsIn g fs) o) h
    (least_alike (λ g. ⊥ ⊎ IsIn g fs) (λ g. IsIn g fs) (lowest None fs) (λ g q. elim q [ inl p ↦ absurd p | inr n ↦ n ]) (λ g q. inr q) (least_lowest (λ g. ⊥) None fs (λ g p. p)))

-- nothing fails in both lists where nothing fails in one after the other
second_none : (f r : List Failure) → none_of (f ++ r) ≡ true → none_of r ≡ true
second_none [] r h = h
second_none (x ∷ f) r h = absurd (true≢false (sym h))

where_held : {A : Type 0} (b : Bool) (o : Option A) → b ≡ true → where_true b o ≡ o
where_held true o h = refl
where_held false o h = absurd (true≢false (sym h))

not_there : (o : Option BodyTree) (fs : List Failure) (f : Failure) → none_of fs ≡ is_some o → lowest None fs ≡ Some f → o ≡ None
not_there None fs f h k = refl
not_there (Some b) fs f h k = absurd (true≢false (ap is_some (sym k ∙ lowest_none fs h)))

-- a body without a failure is accepted
pub accepted : (C : Context) (ls : List Binding) (b : BodySyn) (t : BodyTree) → lowest None (unit_fails C ls b) ≡ None → body_core C ls false (length ls) b ≡ Some t → unit_core C ls b ≡ Some t
accepted C ls b t h k =
    where_held (none_of (body_raises C ls C.sig.signals (length ls) b)) (body_core C ls false (length ls) b)
    (second_none (body_fails C ls false (length ls) b) (body_raises C ls C.sig.signals (length ls) b) (none_lowest (unit_fails C ls b) h)) ∙ k

-- a body with failures is refused by the least of them
pub refused : (C : Context) (ls : List Binding) (b : BodySyn) (f : Failure) → AllTyped ls → lowest None (unit_fails C ls b) ≡ Some f → (unit_core C ls b ≡ None) × IsLeastFailure (unit_fails C ls b) f.rule f.place.at
refused C ls b f h k = (not_there (unit_core C ls b) (unit_fails C ls b) f (unit_law C ls b h) k, (f, least_of (unit_fails C ls b) f k, refl, refl))

core_none : (b : Bool) (o : Option BodyTree) → is_some (where_true b o) ≡ true → o ≡ None → ⊥
core_none true None h k = true≢false (sym h)
core_none true (Some t) h k = true≢false (ap is_some k)
core_none false o h k = true≢false (sym h)

-- where nothing fails there is a checked tree
pub not_refused : (C : Context) (ls : List Binding) (b : BodySyn) → AllTyped ls → lowest None (unit_fails C ls b) ≡ None → body_core C ls false (length ls) b ≡ None → ⊥
not_refused C ls b h k l =
    core_none (none_of (body_raises C ls C.sig.signals (length ls) b)) (body_core C ls false (length ls) b) (sym (unit_law C ls b h) ∙ none_lowest (unit_fails C ls b) k) l
