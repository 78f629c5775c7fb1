-- Members of lists.
use Rattle.std.specs.Prelude.{◌≡◌, ℕ, Bool, false, nat_eq, ◌||◌, ◌⊎◌, List, [], ◌∷◌, Option, Some, None}

-- x is one of the list
abbrev pub IsIn : {A : Type 0} → A → List A → Type 0
IsIn x [] = ⊥
IsIn x (y ∷ ys) = (x ≡ y) ⊎ IsIn x ys

-- each number of the first list is one of the second
abbrev pub AllIn : List ℕ → List ℕ → Type 0
AllIn xs ys = (x : ℕ) → IsIn x xs → IsIn x ys

-- whether the number is one of the list
abbrev pub is_in : ℕ → List ℕ → Bool
is_in n [] = false
is_in n (m ∷ ms) = nat_eq n m || is_in n ms

-- the first of two, else the second
abbrev pub or_else : {A : Type 0} → Option A → Option A → Option A
or_else None b = b
or_else (Some a) b = Some a

-- the first that there is
abbrev pub first_some : {A B : Type 0} → (A → Option B) → List A → Option B
first_some f [] = None
first_some f (x ∷ xs) = or_else (f x) (first_some f xs)
