-- What clauses are for, from the first to the last.
use Rattle.std.proofs.Common.{◌≡◌, ℕ, Bool, true, false, nat_eq, not, ◌&&◌, ◌||◌, List, [], ◌∷◌, ◌++◌, refl, sym, ap, ◌∙◌, arith, true≢false, if◌then◌else◌}
use Rattle.std.specs.List.{list_any}
use Rattle.std.proofs.lemmas.Bool.Decides.{nat_tests}
use Rattle.th_tree.specs.declared.tree.Ident.{Ident}
use Rattle.th_tree.specs.Trees.{ClauseSyn}
use Rattle.th_type.specs.declared.place.Failure.{Failure}
use Rattle.th_type.specs.Failures.{place, unless}
use Rattle.th_hier.specs.Naming.{has, with_number, with_numbers, different}
use Rattle.th_module_rules.specs.Clauses.{clauses_fail, names_of, same_clause}
use Rattle.th_own.specs.declared.clauses.ClauseName.{ClauseName}
use Rattle.th_own.specs.Naming.{clauses_fail_after, name_of, same_name, with_clause}

or_three : (a b c : Bool) → (a || b) || c ≡ a || (b || c)
or_three true b c = refl
or_three false b c = refl

-- whether a number is in a list that goes on
has_append : (xs ys : List ℕ) (n : ℕ) → has (xs ++ ys) n ≡ has xs n || has ys n
has_append [] ys n = refl
has_append (x ∷ xs) ys n = ap (λ b. nat_eq n x || b) (has_append xs ys n) ∙ sym (or_three (nat_eq n x) (has xs n) (has ys n))

same_numbers : (n m : ℕ) → nat_eq n m ≡ true → n ≡ m
same_numbers n m h = grind (arith, nat_tests)

or_false : (a : Bool) → a || false ≡ a
or_false true = refl
or_false false = refl

or_known : (a b : Bool) → (b ≡ true → a ≡ true) → a ≡ a || b
or_known true b h = refl
or_known false true h = h refl
or_known false false h = refl

-- whether a number is in the list with a further one
has_with : (ns : List ℕ) (m n : ℕ) (b : Bool) → has ns m ≡ b → has (if b then ns else ns ++ m ∷ []) n ≡ has ns n || nat_eq n m
has_with ns m n true h = or_known (has ns n) (nat_eq n m) (λ e. ap (has ns) (same_numbers n m e) ∙ h)
has_with ns m n false h = has_append ns (m ∷ []) n ∙ ap (λ b. has ns n || b) (or_false (nat_eq n m))

has_with_numbers : (ms ns : List ℕ) (n : ℕ) → has (with_numbers ms ns) n ≡ has ms n || has ns n
has_with_numbers ms [] n = sym (or_false (has ms n))
has_with_numbers ms (k ∷ ns) n =
    has_with_numbers (with_number ms k) ns n ∙ ap (λ b. b || has ns n) (has_with ms k n (has ms k) refl) ∙ or_three (has ms n) (nat_eq n k) (has ns n)

-- a number is among numbers where it is among them, each once
has_different : (ns : List ℕ) (n : ℕ) → has (different ns) n ≡ has ns n
has_different ns n = has_with_numbers [] ns n

-- the names seen are those of the clauses before
abbrev pub SeenAre : List ClauseName → List ClauseSyn → Type 0
SeenAre seen before = (c : ClauseSyn) → list_any (same_name (name_of c)) seen ≡ list_any (same_clause c) before

any_append : (n : ClauseName) (xs ys : List ClauseName) → list_any (same_name n) (xs ++ ys) ≡ list_any (same_name n) xs || list_any (same_name n) ys
any_append n [] ys = refl
any_append n (x ∷ xs) ys = ap (λ b. same_name n x || b) (any_append n xs ys) ∙ sym (or_three (same_name n x) (list_any (same_name n) xs) (list_any (same_name n) ys))

both : (a b : Bool) → (a && b) ≡ true → (a ≡ true) × (b ≡ true)
both true b h = (refl, h)
both false b h = absurd (true≢false (sym h))

abbrev clause_name : ℕ → ℕ → ClauseName
clause_name p m = record { param = p; method = m }

same_are : (a b : ClauseName) → same_name a b ≡ true → a ≡ b
same_are a b h =
    let p = both (nat_eq a.param b.param) (nat_eq a.method b.method) h in
    ap (λ n. clause_name n a.method) (same_numbers a.param b.param p.0) ∙ ap (λ n. clause_name b.param n) (same_numbers a.method b.method p.1)

or_turned : (a b : Bool) → a || b ≡ b || a
or_turned true true = refl
or_turned true false = refl
or_turned false true = refl
or_turned false false = refl

any_with : (seen : List ClauseName) (m n : ClauseName) (b : Bool) → list_any (same_name m) seen ≡ b
    → list_any (same_name n) (if b then seen else seen ++ m ∷ []) ≡ same_name n m || list_any (same_name n) seen
any_with seen m n true h = or_known (list_any (same_name n) seen) (same_name n m) (λ e. ap (λ k. list_any (same_name k) seen) (same_are n m e) ∙ h) ∙ or_turned (list_any (same_name n) seen) (same_name n m)
any_with seen m n false h = any_append n seen (m ∷ []) ∙ ap (λ b. list_any (same_name n) seen || b) (or_false (same_name n m)) ∙ or_turned (list_any (same_name n) seen) (same_name n m)

seen_more : (seen : List ClauseName) (before : List ClauseSyn) (c : ClauseSyn) → SeenAre seen before → SeenAre (with_clause seen (name_of c)) (c ∷ before)
seen_more seen before c h = λ d. any_with seen (name_of c) (name_of d) (list_any (same_name (name_of c)) seen) refl ∙ ap (λ b. same_clause d c || b) (h d)

fails_alike : (text : ℕ) (params : List ℕ) (seen : List ClauseName) (before cs : List ClauseSyn) → SeenAre seen before
    → clauses_fail_after text (different params) seen cs ≡ clauses_fail text params before cs
fails_alike text params seen before [] h = refl
fails_alike text params seen before (c ∷ cs) h =
    ap (λ (b : Bool). unless b 11 (place text c.param.at) ++ clauses_fail_after text (different params) (with_clause seen (name_of c)) cs)
    (ap (λ b. b && not (list_any (same_name (name_of c)) seen)) (has_different params c.param.name) ∙ ap (λ b. has params c.param.name && not b) (h c))
    ∙ ap (λ (fs : List Failure). unless (has params c.param.name && not (list_any (same_clause c) before)) 11 (place text c.param.at) ++ fs)
    (fails_alike text params (with_clause seen (name_of c)) (c ∷ before) cs (seen_more seen before c h))

pub clauses_are : (text : ℕ) (ps : List Ident) (cs : List ClauseSyn) → clauses_fail_after text (different (names_of ps)) [] cs ≡ clauses_fail text (names_of ps) [] cs
clauses_are text ps cs = fails_alike text (names_of ps) [] [] cs (λ c. refl)
