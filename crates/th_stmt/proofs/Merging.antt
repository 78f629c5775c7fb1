-- The least failure of two lists.
use Rattle.std.proofs.Common.{◌≡◌, ℕ, length, Bool, true, false, List, [], ◌∷◌, ◌++◌, Option, Some, None, refl, sym, ◌∙◌, ap, arith, true≢false, if◌then◌else◌}
use Rattle.std.proofs.lemmas.Bool.Decides.{nat_tests}
use Rattle.th_type.specs.declared.place.Failure.{Failure}
use Rattle.th_type.specs.Failures.{before, lower, lowest}
use Rattle.th_type.proofs.Least.{lowest_append}
use Rattle.th_tree.specs.Trees.{BodySyn}
use Rattle.th_rules.specs.Context.{Binding, Context}
use Rattle.th_stmt_rules.specs.Failing.{body_fails}
use Rattle.th_stmt_rules.specs.Raising.{body_raises}
use Rattle.th_stmt_rules.specs.Units.{unit_fails}
use Rattle.th_stmt.specs.Refusals.{lower_opt}

-- what stands before one of two stands before the other, or the other before what stands there
between : (f g h : Failure) → before g f ≡ true → before f h ≡ true → before g h ≡ true
between f g h a b = grind (arith, nat_tests)

after_both : (f g h : Failure) → before g f ≡ false → before f h ≡ false → before g h ≡ false
after_both f g h a b = grind (arith, nat_tests)

-- two ways to keep one of three
kept_one : (f g h : Failure) (a b c : Bool) → (b ≡ true → a ≡ true → c ≡ true) → (b ≡ false → a ≡ false → c ≡ false) →
    (if a then (if b then Some g else Some f) else (if c then Some g else Some h)) ≡ (if b then (if c then Some g else Some h) else (if a then Some f else Some h))
kept_one f g h true true true k l = refl
kept_one f g h true true false k l = absurd (true≢false (sym (k refl refl)))
kept_one f g h true false c k l = refl
kept_one f g h false true c k l = refl
kept_one f g h false false true k l = absurd (true≢false (l refl refl))
kept_one f g h false false false k l = refl

lower_if : (a : Bool) (x y g : Failure) → lower (if a then Some x else Some y) g ≡ (if a then (if before g x then Some g else Some x) else (if before g y then Some g else Some y))
lower_if true x y g = refl
lower_if false x y g = refl

opt_if : (b : Bool) (x y h : Failure) → lower_opt (Some h) (if b then Some x else Some y) ≡ (if b then (if before x h then Some x else Some h) else (if before y h then Some y else Some h))
opt_if true x y h = refl
opt_if false x y h = refl

lower_none : (b : Bool) (f g : Failure) → (if b then Some g else Some f) ≡ lower_opt None (if b then Some g else Some f)
lower_none true f g = refl
lower_none false f g = refl

lower_both : (o : Option Failure) (f g : Failure) → lower (lower o f) g ≡ lower_opt o (lower (Some f) g)
lower_both None f g = lower_none (before g f) f g
lower_both (Some h) f g =
    lower_if (before f h) f h g ∙ kept_one f g h (before f h) (before g f) (before g h) (between f g h) (after_both f g h) ∙ sym (opt_if (before g f) g f h)

lower_more : (o : Option Failure) (f : Failure) (m : Option Failure) → lower_opt (lower o f) m ≡ lower_opt o (lower_opt (Some f) m)
lower_more o f None = refl
lower_more o f (Some g) = lower_both o f g

-- the failure that is kept with those of a list is that with the least of the list
lowest_merged : (o : Option Failure) (fs : List Failure) → lowest o fs ≡ lower_opt o (lowest None fs)
lowest_merged o [] = refl
lowest_merged o (f ∷ fs) = lowest_merged (lower o f) fs ∙ lower_more o f (lowest None fs) ∙ ap (lower_opt o) (sym (lowest_merged (Some f) fs))

-- what is kept of one list and then of a second one apart is kept of both
merged : (o p q r : Option Failure) (fs gs : List Failure) → q ≡ lower_opt p r → p ≡ lowest o fs → r ≡ lowest None gs → q ≡ lowest o (fs ++ gs)
merged o p q r fs gs a b c =
    a ∙ ap (λ (x : Option Failure). lower_opt x r) b ∙ ap (lower_opt (lowest o fs)) c ∙ sym (lowest_merged (lowest o fs) gs) ∙ sym (lowest_append o fs gs)

-- what is kept of a body whose locals and listed exceptions are those of the unit, with what nothing handles, is kept of the unit
pub unit_least : (C : Context) (ls ms : List Binding) (n : ℕ) (h : List ℕ) (b : BodySyn) (o p q r : Option Failure) → q ≡ lower_opt p r → p ≡ lowest o (body_fails C ms false n b) → r ≡ lowest None (body_raises C ms h n b) →
    ms ≡ ls → n ≡ length ls → h ≡ C.sig.signals → q ≡ lowest o (unit_fails C ls b)
unit_least C ls ms n h b o p q r k f g e l s =
    merged o p q r (body_fails C ls false (length ls) b) (body_raises C ls C.sig.signals (length ls) b) k
    (f ∙ ap (λ (xs : List Binding). lowest o (body_fails C xs false n b)) e ∙ ap (λ (m : ℕ). lowest o (body_fails C ls false m b)) l)
    (g ∙ ap (λ (xs : List Binding). lowest None (body_raises C xs h n b)) e ∙ ap (λ (m : ℕ). lowest None (body_raises C ls h m b)) l
    ∙ ap (λ (x : List ℕ). lowest None (body_raises C ls x (length ls) b)) s)
