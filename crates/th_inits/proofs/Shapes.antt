-- How often a field is assigned.
use Rattle.std.proofs.Common.{◌≡◌, ℕ, ◌+◌, Bool, true, false, nat_eq, List, [], ◌∷◌, refl, arith, if◌then◌else◌}
use Rattle.std.proofs.lemmas.Bool.Decides.{nat_tests}
use Rattle.th_tree.specs.Trees.{FieldAssignSyn}
use Rattle.th_module_rules.specs.Initializers.{times}

-- whether a field that was assigned before, or was not, is assigned once in all
abbrev pub once_with : Bool → ℕ → Bool
once_with false k = nat_eq k 1
once_with true k = nat_eq (1 + k) 1

pub once_none : (found : Bool) (f : ℕ) → once_with found (times f []) ≡ found
once_none true f = refl
once_none false f = refl

times_if : (b : Bool) (f : ℕ) (rest : List FieldAssignSyn) → b ≡ true → (if b then 1 + times f rest else times f rest) ≡ 1 + times f rest
times_if b f rest h = rw h refl

times_else : (b : Bool) (f : ℕ) (rest : List FieldAssignSyn) → b ≡ false → (if b then 1 + times f rest else times f rest) ≡ times f rest
times_else b f rest h = rw h refl

-- the first assignment
pub once_first : (f : ℕ) (a : FieldAssignSyn) (rest : List FieldAssignSyn) → nat_eq a.field.name f ≡ true → once_with false (times f (a ∷ rest)) ≡ once_with true (times f rest)
once_first f a rest h = rw (times_if (nat_eq a.field.name f) f rest h) refl

two_more : (k : ℕ) → nat_eq (1 + (1 + k)) 1 ≡ false
two_more k = grind (arith, nat_tests)

-- one more assignment
pub once_again : (f : ℕ) (a : FieldAssignSyn) (rest : List FieldAssignSyn) → nat_eq a.field.name f ≡ true → once_with true (times f (a ∷ rest)) ≡ false
once_again f a rest h = rw (times_if (nat_eq a.field.name f) f rest h) (two_more (times f rest))

-- an assignment of something else
pub once_other : (found : Bool) (f : ℕ) (a : FieldAssignSyn) (rest : List FieldAssignSyn) → nat_eq a.field.name f ≡ false → once_with found (times f (a ∷ rest)) ≡ once_with found (times f rest)
once_other found f a rest h = rw (times_else (nat_eq a.field.name f) f rest h) refl
