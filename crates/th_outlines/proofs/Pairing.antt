-- Trees with the numbers of their texts.
use Rattle.std.proofs.Common.{◌≡◌, ℕ, ◌<◌, ◌≤◌, ◌+◌, List, [], ◌∷◌, ◌++◌, length, map, drop, get_or, Option, refl, sym, ap, ◌∙◌, arith, inl, inr, subst}
use Rattle.std.proofs.lemmas.List.{get_or_default}
use Rattle.std.proofs.Math.ListN.{drop_of_length-le}
use Rattle.th_tree.specs.Trees.{ModuleSyn}
use Rattle.th_type.specs.declared.place.Failure.{Failure}
use Rattle.th_type.specs.Failures.{lowest}
use Rattle.th_type.specs.Lists.{IsIn}
use Rattle.th_type.proofs.Least.{lowest_append}
use Rattle.th_hier.proofs.Failing.{next_item}
use Rattle.th_module_rules.specs.Stages.{Numbered, numbered}
use Rattle.th_module_rules.specs.Texts.{HasOwnNames}
use Rattle.th_program.specs.Programs.{with_texts}
use Rattle.th_outlines.specs.Programs.{AllNamed}

-- no tree is left
pub none_with : {A : Type 0} (ns : List ℕ) → with_texts {A = A} ns [] ≡ []
none_with [] = refl
none_with (n ∷ ns) = refl

-- the first tree that is left, with the number of its text
pub next_with : {A B : Type 0} (f : A → B) (ns : List ℕ) (xs : List A) (k : ℕ) (x : A) → k < length ns → k < length xs → x ≡ get_or xs k x
    → with_texts (drop k ns) (map f (drop k xs)) ≡ numbered (get_or ns k 0) (f x) ∷ with_texts (drop (k + 1) ns) (map f (drop (k + 1) xs))
next_with {A} {B} f ns xs k x bn bx ex =
    ap (λ (l : List ℕ). with_texts l (map f (drop k xs))) (next_item ns k (get_or ns k 0) bn (get_or_default ns k 0 (get_or ns k 0) bn))
    ∙ ap (λ (l : List A). with_texts (get_or ns k 0 ∷ drop (k + 1) ns) (map f l)) (next_item xs k x bx ex)

-- as many numbers as trees
pub texts_are : {A : Type 0} (ns : List ℕ) (xs : List A) → length ns ≡ length xs → map (λ i. i.text) (with_texts ns xs) ≡ ns
texts_are [] xs e = refl
texts_are (n ∷ ns) [] e = absurd (omega arith)
texts_are (n ∷ ns) (x ∷ xs) e = ap (λ (l : List ℕ). n ∷ l) (texts_are ns xs (omega arith))

pub trees_are : {A : Type 0} (ns : List ℕ) (xs : List A) → length ns ≡ length xs → map (λ i. i.tree) (with_texts ns xs) ≡ xs
trees_are [] [] e = refl
trees_are [] (x ∷ xs) e = absurd (omega arith)
trees_are (n ∷ ns) [] e = absurd (omega arith)
trees_are {A} (n ∷ ns) (x ∷ xs) e = ap (λ (l : List A). x ∷ l) (trees_are ns xs (omega arith))

-- each module has its names
pub all_named : (table : List (List ℕ)) (ms : List (Numbered ModuleSyn)) → ((m : Numbered ModuleSyn) → IsIn m ms → HasOwnNames table m.tree) → AllNamed table ms
all_named table [] h = tt
all_named table (m ∷ ms) h = (h m (inl refl), all_named table ms (λ n i. h n (inr i)))

-- nothing is left past the last number, or past the last tree
pub past_texts : {A : Type 0} (ns : List ℕ) (xs : List A) (k : ℕ) → length ns ≤ k → with_texts (drop k ns) xs ≡ []
past_texts {A} ns xs k h = ap (λ (l : List ℕ). with_texts l xs) (drop_of_length-le ns h)

pub past_trees : {A B : Type 0} (f : A → B) (ns : List ℕ) (xs : List A) (k : ℕ) → length xs ≤ k → with_texts ns (map f (drop k xs)) ≡ []
past_trees {A} {B} f ns xs k h = ap (λ (l : List A). with_texts ns (map f l)) (drop_of_length-le xs h) ∙ none_with ns

-- the least of the failures that are left, after those of the next tree
pub next_lowest : {A B : Type 0} (f : A → B) (g : Numbered B → List Failure) (G : List (Numbered B) → List Failure) (ns : List ℕ) (xs : List A) (k : ℕ) (x : A) (least new whole : Option Failure)
    → ((y : Numbered B) (ys : List (Numbered B)) → G (y ∷ ys) ≡ g y ++ G ys) → k < length ns → k < length xs → x ≡ get_or xs k x
    → new ≡ lowest least (g (numbered (get_or ns k 0) (f x))) → lowest least (G (with_texts (drop k ns) (map f (drop k xs)))) ≡ whole
    → lowest new (G (with_texts (drop (k + 1) ns) (map f (drop (k + 1) xs)))) ≡ whole
next_lowest {A} {B} f g G ns xs k x least new whole goes bn bx ex here left =
    let rest : List (Numbered B) = with_texts (drop (k + 1) ns) (map f (drop (k + 1) xs)) in
    ap (λ (o : Option Failure). lowest o (G rest)) here ∙ sym (lowest_append least (g (numbered (get_or ns k 0) (f x))) (G rest)) ∙ ap (lowest least) (sym (goes (numbered (get_or ns k 0) (f x)) rest))
    ∙ ap (λ (l : List (Numbered B)). lowest least (G l)) (sym (next_with f ns xs k x bn bx ex)) ∙ left

-- nothing is left: what is kept is the least of all
pub last_lowest : {B : Type 0} (G : List (Numbered B) → List Failure) (l : List (Numbered B)) (least whole : Option Failure) → G [] ≡ [] → l ≡ [] → lowest least (G l) ≡ whole → least ≡ whole
last_lowest G l least whole none e left = sym (ap (lowest least) (ap G e ∙ none)) ∙ left

-- the next module that is left has its names, and so have those after it
pub next_named : {A : Type 0} (f : A → ModuleSyn) (table : List (List ℕ)) (ns : List ℕ) (xs : List A) (k : ℕ) (x : A) → k < length ns → k < length xs → x ≡ get_or xs k x
    → AllNamed table (with_texts (drop k ns) (map f (drop k xs))) → HasOwnNames table (f x) × AllNamed table (with_texts (drop (k + 1) ns) (map f (drop (k + 1) xs)))
next_named {A} f table ns xs k x bn bx ex h = subst (λ (l : List (Numbered ModuleSyn)). AllNamed table l) (next_with f ns xs k x bn bx ex) h
