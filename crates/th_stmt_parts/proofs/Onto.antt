-- Lists that are built and taken apart by loops.
use Rattle.std.proofs.Common.{◌≡◌, ℕ, suc, ◌+◌, List, [], ◌∷◌, ◌++◌, drop, length, refl, sym, ◌∙◌, zero, add-one, add-zero, zero-add, append-nil, arith}
use Rattle.th_hier.specs.Naming.{with_number, with_numbers}
use Rattle.th_meaning.specs.Trees as core
use Rattle.th_rules.specs.Context.{Binding}
use Rattle.th_stmt_parts.specs.View.{locals_onto}

-- one more is taken away
drop_suc : {A : Type 0} (k : ℕ) (xs : List A) → drop (suc k) xs ≡ drop 1 (drop k xs)
drop_suc zero xs = refl
drop_suc (suc k) [] = refl
drop_suc (suc k) (x ∷ xs) = drop_suc k xs

pub drop_next : {A : Type 0} (k : ℕ) (xs : List A) → drop (k + 1) xs ≡ drop 1 (drop k xs)
drop_next k xs = rw (add-one k) (drop_suc k xs)

-- numbers that are added one list after another
pub with_numbers_append : (ns xs ys : List ℕ) → with_numbers ns (xs ++ ys) ≡ with_numbers (with_numbers ns xs) ys
with_numbers_append ns [] ys = refl
with_numbers_append ns (x ∷ xs) ys = with_numbers_append (with_number ns x) xs ys

onto_onto : (xs ys zs : List Binding) → locals_onto (locals_onto xs ys) zs ≡ locals_onto ys (xs ++ zs)
onto_onto [] ys zs = refl
onto_onto (x ∷ xs) ys zs = onto_onto xs (x ∷ ys) zs

-- locals that are turned twice
pub twice_turned : (xs : List Binding) → locals_onto (locals_onto xs []) [] ≡ xs
twice_turned xs = onto_onto xs [] [] ∙ append-nil xs

onto_length : (xs ys : List Binding) → length (locals_onto xs ys) ≡ length xs + length ys
onto_length [] ys = sym (zero-add (length ys))
onto_length (x ∷ xs) ys = onto_length xs (x ∷ ys) ∙ (omega arith)

pub turned_length : (xs : List Binding) → length (locals_onto xs []) ≡ length xs
turned_length xs = onto_length xs [] ∙ add-zero (length xs)
