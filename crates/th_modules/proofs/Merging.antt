-- The least failure of a list, and of one kept before it.
use Rattle.std.proofs.Common.{◌≡◌, Bool, true, false, List, [], ◌∷◌, Option, Some, None, refl, sym, ◌∙◌, ap, arith, true≢false, if◌then◌else◌}
use Rattle.std.proofs.lemmas.Bool.Decides.{nat_tests}
use Rattle.th_type.specs.declared.place.Failure.{Failure}
use Rattle.th_type.specs.Failures.{before, lower, lowest}
use Rattle.th_stmt.specs.Refusals.{lower_opt}

-- what stands before one of two stands before the other, or the other before what stands there
between : (f g h : Failure) → before g f ≡ true → before f h ≡ true → before g h ≡ true
between f g h a b = grind (arith, nat_tests)

after_both : (f g h : Failure) → before g f ≡ false → before f h ≡ false → before g h ≡ false
after_both f g h a b = grind (arith, nat_tests)

-- two ways to keep one of three
kept_one : (f g h : Failure) (a b c : Bool) → (b ≡ true → a ≡ true → c ≡ true) → (b ≡ false → a ≡ false → c ≡ false) →
    (if a then (if b then Some g else Some f) else (if c then Some g else Some h)) ≡ (if b then (if c then Some g else Some h) else (if a then Some f else Some h))
kept_one f g h true true true k l = refl
kept_one f g h true true false k l = absurd (true≢false (sym (k refl refl)))
kept_one f g h true false c k l = refl
kept_one f g h false true c k l = refl
kept_one f g h false false true k l = absurd (true≢false (l refl refl))
kept_one f g h false false false k l = refl

lower_if : (a : Bool) (x y g : Failure) → lower (if a then Some x else Some y) g ≡ (if a then (if before g x then Some g else Some x) else (if before g y then Some g else Some y))
lower_if true x y g = refl
lower_if false x y g = refl

opt_if : (b : Bool) (x y h : Failure) → lower_opt (Some h) (if b then Some x else Some y) ≡ (if b then (if before x h then Some x else Some h) else (if before y h then Some y else Some h))
opt_if true x y h = refl
opt_if false x y h = refl

lower_none : (b : Bool) (f g : Failure) → (if b then Some g else Some f) ≡ lower_opt None (if b then Some g else Some f)
lower_none true f g = refl
lower_none false f g = refl

lower_both : (o : Option Failure) (f g : Failure) → lower (lower o f) g ≡ lower_opt o (lower (Some f) g)
lower_both None f g = lower_none (before g f) f g
lower_both (Some h) f g =
    lower_if (before f h) f h g ∙ kept_one f g h (before f h) (before g f) (before g h) (between f g h) (after_both f g h) ∙ sym (opt_if (before g f) g f h)

lower_more : (o : Option Failure) (f : Failure) (m : Option Failure) → lower_opt (lower o f) m ≡ lower_opt o (lower_opt (Some f) m)
lower_more o f None = refl
lower_more o f (Some g) = lower_both o f g

-- the failure that is kept with those of a list is that with the least of the list
pub lowest_merged : (o : Option Failure) (fs : List Failure) → lowest o fs ≡ lower_opt o (lowest None fs)
lowest_merged o [] = refl
lowest_merged o (f ∷ fs) = lowest_merged (lower o f) fs ∙ lower_more o f (lowest None fs) ∙ ap (lower_opt o) (sym (lowest_merged (Some f) fs))
