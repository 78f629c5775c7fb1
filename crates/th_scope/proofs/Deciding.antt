-- Truth values that are true alike.
use Rattle.std.proofs.Common.{◌≡◌, ℕ, Bool, true, false, ◌||◌, List, [], ◌∷◌, ◌++◌, nat_eq, refl}
use Rattle.th_type.specs.Lists.{is_in}
use Rattle.th_hier.specs.Naming.{has}

pub same_by : (a b : Bool) → (a ≡ true → b ≡ true) → (b ≡ true → a ≡ true) → a ≡ b
same_by true true f g = refl
same_by true false f g = let h : false ≡ true = f refl in cc
same_by false true f g = let h : false ≡ true = g refl in cc
same_by false false f g = refl

-- a number is one of two lists where it is one of the first or of the second
pub in_append : (n : ℕ) (xs ys : List ℕ) → is_in n (xs ++ ys) ≡ has xs n || is_in n ys
in_append n [] ys = refl
in_append n (x ∷ xs) ys = by (nat_eq n x) (in_append n xs ys) where
  by : (b : Bool) → is_in n (xs ++ ys) ≡ has xs n || is_in n ys → b || is_in n (xs ++ ys) ≡ (b || has xs n) || is_in n ys
  by true h = refl
  by false h = h
