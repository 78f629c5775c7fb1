-- Trees with the numbers of their texts.
use Rattle.std.proofs.Common.{◌≡◌, ℕ, zero, suc, ◌<◌, ◌+◌, List, [], ◌∷◌, length, map, drop, get_or, refl, ap, ◌∙◌, arith, inl, inr}
use Rattle.std.specs.Prelude.{Result, Ok, Err, OnOk}
use Rattle.th_tree.specs.Trees.{ModuleSyn}
use Rattle.th_type.specs.Lists.{IsIn}
use Rattle.th_hier.proofs.Failing.{next_item}
use Rattle.th_module_rules.specs.Stages.{Numbered, numbered}
use Rattle.th_module_rules.specs.Texts.{HasOwnNames}
use Rattle.th_program.specs.Programs.{with_texts}
use Rattle.th_bodies.specs.Judging.{AllNamed}

-- no tree is left
pub none_with : {A : Type 0} (ns : List ℕ) → with_texts {A = A} ns [] ≡ []
none_with [] = refl
none_with (n ∷ ns) = refl

-- the first tree that is left, with the number of its text
pub next_with : {A B : Type 0} (f : A → B) (ns : List ℕ) (xs : List A) (k n : ℕ) (x : A) → k < length ns → k < length xs → n ≡ get_or ns k n → x ≡ get_or xs k x
    → with_texts (drop k ns) (map f (drop k xs)) ≡ numbered n (f x) ∷ with_texts (drop (k + 1) ns) (map f (drop (k + 1) xs))
next_with {A} {B} f ns xs k n x bn bx en ex =
    ap (λ (l : List ℕ). with_texts l (map f (drop k xs))) (next_item ns k n bn en)
    ∙ ap (λ (l : List A). with_texts (n ∷ drop (k + 1) ns) (map f l)) (next_item xs k x bx ex)

-- as many numbers as trees
pub trees_are : {A : Type 0} (ns : List ℕ) (xs : List A) → length ns ≡ length xs → map (λ i. i.tree) (with_texts ns xs) ≡ xs
trees_are [] [] e = refl
trees_are [] (x ∷ xs) e = absurd (omega arith)
trees_are (n ∷ ns) [] e = absurd (omega arith)
trees_are {A} (n ∷ ns) (x ∷ xs) e = ap (λ (l : List A). x ∷ l) (trees_are ns xs (omega arith))

-- each module has its names
pub all_named : (table : List (List ℕ)) (ms : List (Numbered ModuleSyn)) → ((m : Numbered ModuleSyn) → IsIn m ms → HasOwnNames table m.tree) → AllNamed table ms
all_named table [] h = tt
all_named table (m ∷ ms) h = (h m (inl refl), all_named table ms (λ n i. h n (inr i)))

-- what stands at a place, whatever would stand beyond the end
pub got_or : (xs : List ℕ) (k d e : ℕ) → k < length xs → get_or xs k d ≡ get_or xs k e
got_or [] k d e h = absurd (omega arith)
got_or (x ∷ xs) zero d e h = refl
got_or (x ∷ xs) (suc k) d e h = got_or xs k d e (omega arith)

-- two facts that hold where a result is there give a third
pub both_ok : {A E P Q R : Type 0} (r : Result A E) → (P → Q → R) → OnOk r P → OnOk r Q → OnOk r R
both_ok (Ok x) f p q = f p q
both_ok (Err e) f p q = tt
