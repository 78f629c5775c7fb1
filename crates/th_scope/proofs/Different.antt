-- Numbers, each once, are the same numbers.
use Rattle.std.proofs.Common.{◌≡◌, ℕ, Bool, true, false, ◌||◌, nat_eq, List, [], ◌∷◌, ◌++◌, refl, sym, ap, ◌∙◌, arith, if◌then◌else◌}
use Rattle.std.proofs.lemmas.Bool.Decides.{nat_tests}
use Rattle.th_type.specs.Lists.{is_in}
use Rattle.th_hier.specs.Naming.{different, has, with_number, with_numbers}

pub has_in : (ns : List ℕ) (n : ℕ) → has ns n ≡ is_in n ns
has_in [] n = refl
has_in (m ∷ ns) n = ap (λ b. nat_eq n m || b) (has_in ns n)

or_three : (a b c : Bool) → (a || b) || c ≡ a || (b || c)
or_three true b c = refl
or_three false b c = refl

or_false : (a : Bool) → a || false ≡ a
or_false true = refl
or_false false = refl

-- whether a number is in a list with one more
pub has_push : (ns : List ℕ) (m n : ℕ) → has (ns ++ m ∷ []) n ≡ has ns n || nat_eq n m
has_push [] m n = or_false (nat_eq n m)
has_push (x ∷ ns) m n = ap (λ b. nat_eq n x || b) (has_push ns m n) ∙ sym (or_three (nat_eq n x) (has ns n) (nat_eq n m))

same_numbers : (n m : ℕ) → nat_eq n m ≡ true → n ≡ m
same_numbers n m h = grind (arith, nat_tests)

or_known : (a b : Bool) → (b ≡ true → a ≡ true) → a ≡ a || b
or_known true b h = refl
or_known false true h = h refl
or_known false false h = refl

has_with : (ns : List ℕ) (m n : ℕ) (b : Bool) → has ns m ≡ b → has (if b then ns else ns ++ m ∷ []) n ≡ has ns n || nat_eq n m
has_with ns m n true h = or_known (has ns n) (nat_eq n m) (λ e. ap (has ns) (same_numbers n m e) ∙ h)
has_with ns m n false h = has_push ns m n

has_with_numbers : (ms ns : List ℕ) (n : ℕ) → has (with_numbers ms ns) n ≡ has ms n || has ns n
has_with_numbers ms [] n = sym (or_false (has ms n))
has_with_numbers ms (k ∷ ns) n =
    has_with_numbers (with_number ms k) ns n ∙ ap (λ b. b || has ns n) (has_with ms k n (has ms k) refl) ∙ or_three (has ms n) (nat_eq n k) (has ns n)

-- a number is among numbers, each once, where it is among these
pub has_different : (ns : List ℕ) (n : ℕ) → has (different ns) n ≡ is_in n ns
has_different ns n = has_with_numbers [] ns n ∙ has_in ns n
