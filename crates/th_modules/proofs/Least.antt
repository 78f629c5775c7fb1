-- What is kept where nothing fails.
use Rattle.std.proofs.Common.{◌≡◌, Bool, true, false, List, [], ◌∷◌, ◌++◌, Option, Some, None, is_some, refl, sym, ◌∙◌, ap, true≢false, if◌then◌else◌}
use Rattle.th_type.specs.declared.place.Failure.{Failure}
use Rattle.th_type.specs.Failures.{lower, lowest, none_of, before}

kept_if : (f g : Failure) (b : Bool) → is_some (if b then Some f else Some g) ≡ true
kept_if f g true = refl
kept_if f g false = refl

lower_kept : (o : Option Failure) (f : Failure) → is_some (lower o f) ≡ true
lower_kept None f = refl
lower_kept (Some g) f = kept_if f g (before f g)

kept : (o : Option Failure) (fs : List Failure) → is_some o ≡ true → is_some (lowest o fs) ≡ true
kept o [] h = h
kept o (f ∷ fs) h = kept (lower o f) fs (lower_kept o f)

-- where nothing is kept, nothing was kept before
pub still_none : (o : Option Failure) (fs : List Failure) → lowest o fs ≡ None → o ≡ None
still_none None fs h = refl
still_none (Some f) fs h = absurd (true≢false (sym (kept (Some f) fs refl) ∙ ap is_some h))

-- and nothing is in the list
pub none_there : (o : Option Failure) (fs : List Failure) → lowest o fs ≡ None → none_of fs ≡ true
none_there o [] h = refl
none_there o (f ∷ fs) h = absurd (true≢false (sym (kept (lower o f) fs (lower_kept o f)) ∙ ap is_some h))

second_none : (f r : List Failure) → none_of (f ++ r) ≡ true → none_of r ≡ true
second_none [] r h = h
second_none (x ∷ f) r h = absurd (true≢false (sym h))

-- nothing is in the second of two lists that are kept, one after the other, and then others
pub none_second : (o mid new : Option Failure) (xs ys rest : List Failure) → mid ≡ lowest o (xs ++ ys) → new ≡ lowest mid rest → new ≡ None → none_of ys ≡ true
none_second o mid new xs ys rest a b h = second_none xs ys (none_there o (xs ++ ys) (sym a ∙ still_none mid rest (sym b ∙ h)))
