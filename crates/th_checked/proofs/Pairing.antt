-- Trees with the numbers of their texts.
use Rattle.std.proofs.Common.{◌≡◌, ℕ, suc, ◌<◌, ◌≤◌, ◌+◌, List, [], ◌∷◌, ◌++◌, length, map, drop, get_or, refl, sym, ap, ◌∙◌, arith, append_assoc, append-nil}
use Rattle.std.proofs.Math.ListN.{drop_of_length-le}
use Rattle.std.proofs.lemmas.Grind.{get_or_default_zero}
use Rattle.th_hier.proofs.Failing.{next_item}
use Rattle.th_module_rules.specs.Stages.{Numbered, numbered}
use Rattle.th_program.specs.Programs.{with_texts}

-- the first tree that is left, with the number of its text
pub next_with : {A B : Type 0} (f : A → B) (ns : List ℕ) (xs : List A) (k n : ℕ) (x : A) → k < length ns → k < length xs → n ≡ get_or ns k n → x ≡ get_or xs k x
    → with_texts (drop k ns) (map f (drop k xs)) ≡ numbered n (f x) ∷ with_texts (drop (k + 1) ns) (map f (drop (k + 1) xs))
next_with {A} {B} f ns xs k n x bn bx en ex =
    ap (λ (l : List ℕ). with_texts l (map f (drop k xs))) (next_item ns k n bn en)
    ∙ ap (λ (l : List A). with_texts (n ∷ drop (k + 1) ns) (map f l)) (next_item xs k x bx ex)

-- no tree is left
pub none_with : {A : Type 0} (ns : List ℕ) → with_texts {A = A} ns [] ≡ []
none_with [] = refl
none_with (n ∷ ns) = refl

-- where there are as many numbers as trees, these are the trees, and as many
pub trees_are : {A : Type 0} (ns : List ℕ) (xs : List A) → length ns ≡ length xs → map (λ i. i.tree) (with_texts ns xs) ≡ xs
trees_are [] [] e = refl
trees_are [] (x ∷ xs) e = absurd (omega arith)
trees_are (n ∷ ns) [] e = absurd (omega arith)
trees_are {A} (n ∷ ns) (x ∷ xs) e = ap (λ (l : List A). x ∷ l) (trees_are ns xs (omega arith))

pub with_count : {A : Type 0} (ns : List ℕ) (xs : List A) → length ns ≡ length xs → length (with_texts ns xs) ≡ length xs
with_count [] [] e = refl
with_count [] (x ∷ xs) e = absurd (omega arith)
with_count (n ∷ ns) [] e = absurd (omega arith)
with_count {A} (n ∷ ns) (x ∷ xs) e = ap suc (with_count ns xs (omega arith))

pub next_at : {A B : Type 0} (f : A → B) (ns : List ℕ) (xs : List A) (k : ℕ) (x : A) → length ns ≡ length xs → k < length xs → x ≡ get_or xs k x
    → with_texts (drop k ns) (map f (drop k xs)) ≡ numbered (get_or ns k 0) (f x) ∷ with_texts (drop (k + 1) ns) (map f (drop (k + 1) xs))
next_at f ns xs k x paired below is =
    let inside : k < length ns = omega (arith, paired, below) in
    next_with f ns xs k (get_or ns k 0) x inside below (sym (get_or_default_zero ns k (get_or ns k 0) inside)) is

pub end_at : {A B : Type 0} (f : A → B) (ns : List ℕ) (xs : List A) (k : ℕ) → length xs ≤ k → with_texts (drop k ns) (map f (drop k xs)) ≡ []
end_at {A} {B} f ns xs k past = ap (λ (l : List A). with_texts (drop k ns) (map f l)) (drop_of_length-le xs past) ∙ none_with (drop k ns)

-- what is made of the next tree goes last
pub next_made : {A B C : Type 0} (f : A → B) (g : ℕ → B → List C) (G : List (Numbered B) → List C) → ((n : ℕ) (b : B) (ms : List (Numbered B)) → G (numbered n b ∷ ms) ≡ g n b ++ G ms)
    → (ns : List ℕ) (xs : List A) (k : ℕ) (x : A) (made new whole : List C) → length ns ≡ length xs → k < length xs → x ≡ get_or xs k x
    → new ≡ made ++ g (get_or ns k 0) (f x) → made ++ G (with_texts (drop k ns) (map f (drop k xs))) ≡ whole
    → new ++ G (with_texts (drop (k + 1) ns) (map f (drop (k + 1) xs))) ≡ whole
next_made {A} {B} {C} f g G goes ns xs k x made new whole paired below is e before =
    let rest = with_texts (drop (k + 1) ns) (map f (drop (k + 1) xs)) in
    ap (λ (l : List C). l ++ G rest) e ∙ append_assoc made (g (get_or ns k 0) (f x)) (G rest)
    ∙ ap (λ (l : List C). made ++ l) (sym (goes (get_or ns k 0) (f x) rest) ∙ sym (ap G (next_at f ns xs k x paired below is))) ∙ before

-- where no tree is left, what is made is the whole
pub end_made : {A B C : Type 0} (f : A → B) (G : List (Numbered B) → List C) → G [] ≡ [] → (ns : List ℕ) (xs : List A) (k : ℕ) (made whole : List C) → length xs ≤ k
    → made ++ G (with_texts (drop k ns) (map f (drop k xs))) ≡ whole → made ≡ whole
end_made {A} {B} {C} f G none ns xs k made whole past before =
    sym (append-nil made) ∙ ap (λ (l : List C). made ++ l) (sym (ap G (end_at f ns xs k past) ∙ none)) ∙ before
