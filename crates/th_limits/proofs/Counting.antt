-- Counts one after another.
use Rattle.std.proofs.Common.{◌≡◌, ℕ, suc, ◌+◌, ◌-◌, ◌^◌, ◌<◌, ◌≤◌, Bool, List, [], ◌∷◌, ◌++◌, length, get_or, map, drop, Option, refl, sym, ap, ◌∙◌, add-one, arith, if◌then◌else◌}
use Rattle.std.specs.Prelude.{fold, min, nat_lt}
use Rattle.std.proofs.Math.Seq.{drop-cons}
use Rattle.std.proofs.lemmas.Bool.Decides.{nat_tests}
use Rattle.th_type.specs.declared.place.Place.{Place}
use Rattle.th_type.specs.declared.place.What.{What}
use Rattle.th_type.specs.declared.place.What.TheVariants as whats
use Rattle.th_module_rules.specs.Limits.{Counted, counted, limit_of, units_counts}
use Rattle.th_limits.specs.declared.excess.Excess.{Excess}
use Rattle.th_limits.specs.Earliest.{earlier, earliest, kept}

-- the first of one list after another
pub earliest_append : (o : Option Excess) (xs ys : List Counted) → earliest o (xs ++ ys) ≡ earliest (earliest o xs) ys
earliest_append o [] ys = refl
earliest_append o (x ∷ xs) ys = earliest_append (kept o x) xs ys

-- the first of three lists, one after another
pub three : (o first second third : Option Excess) (xs ys zs : List Counted) → first ≡ earliest o xs → second ≡ earliest first ys → third ≡ earliest second zs
    → third ≡ earliest o ((xs ++ ys) ++ zs)
three o first second third xs ys zs a b c =
    c ∙ ap (λ (p : Option Excess). earliest p zs) (b ∙ ap (λ (p : Option Excess). earliest p ys) a ∙ sym (earliest_append o xs ys)) ∙ sym (earliest_append o (xs ++ ys) zs)

-- what is left of a list before its next element
pub next_item : {A : Type 0} (xs : List A) (i : ℕ) (x : A) → i < length xs → x ≡ get_or xs i x → drop i xs ≡ x ∷ drop (i + 1) xs
next_item {A} xs i x below is =
    drop-cons xs i x below ∙ ap (λ (y : A). y ∷ drop (suc i) xs) (sym is) ∙ ap (λ k. x ∷ drop k xs) (sym (add-one i))

-- the first of the counts that are left, after those of the next element
pub next_counts : {A : Type 0} (f : A → List Counted) (F : List A → List Counted) (xs : List A) (i : ℕ) (x : A) (first new whole : Option Excess)
    → ((y : A) (ys : List A) → F (y ∷ ys) ≡ f y ++ F ys) → i < length xs → x ≡ get_or xs i x
    → new ≡ earliest first (f x) → earliest first (F (drop i xs)) ≡ whole → earliest new (F (drop (i + 1) xs)) ≡ whole
next_counts f F xs i x first new whole goes below is here left =
    ap (λ o. earliest o (F (drop (i + 1) xs))) here ∙ sym (earliest_append first (f x) (F (drop (i + 1) xs)))
    ∙ ap (earliest first) (sym (goes x (drop (i + 1) xs))) ∙ ap (λ ys. earliest first (F ys)) (sym (next_item xs i x below is)) ∙ left

-- a number that stays at the greatest of 64 bits
pub capped_twice : (n : ℕ) → min (min n (2 ^ 64 - 1)) (2 ^ 64 - 1) ≡ min n (2 ^ 64 - 1)
capped_twice n = omega arith

pub capped_sum : (m n : ℕ) → min (min m (2 ^ 64 - 1) + min n (2 ^ 64 - 1)) (2 ^ 64 - 1) ≡ min (m + n) (2 ^ 64 - 1)
capped_sum m n = omega arith

capped_plus : (m n : ℕ) → min (min m (2 ^ 64 - 1) + n) (2 ^ 64 - 1) ≡ min (m + n) (2 ^ 64 - 1)
capped_plus m n = omega arith

plus_capped : (m n : ℕ) → min (m + min n (2 ^ 64 - 1)) (2 ^ 64 - 1) ≡ min (m + n) (2 ^ 64 - 1)
plus_capped m n = omega arith

capped_small : (m n : ℕ) → n ≡ min m (2 ^ 64 - 1) → n ≤ 2 ^ 64 - 1
capped_small m n h = omega arith

-- a sum goes on from a number that stays at the greatest of 64 bits as from the number
pub capped_fold : {A : Type 0} (f : A → ℕ) (m : ℕ) (xs : List A) → min (fold (λ a x. a + f x) (min m (2 ^ 64 - 1)) xs) (2 ^ 64 - 1) ≡ min (fold (λ a x. a + f x) m xs) (2 ^ 64 - 1)
capped_fold f m [] = capped_twice m
capped_fold f m (x ∷ xs) =
    sym (capped_fold f (min m (2 ^ 64 - 1) + f x) xs) ∙ ap (λ n. min (fold (λ a x. a + f x) n xs) (2 ^ 64 - 1)) (capped_plus m (f x)) ∙ capped_fold f (m + f x) xs

-- a sum after the next element
pub next_sum : {A B : Type 0} (v : A → B) (f : B → ℕ) (xs : List A) (i : ℕ) (x : A) (sum n new whole : ℕ) → i < length xs → x ≡ get_or xs i x
    → n ≡ min (f (v x)) (2 ^ 64 - 1) → new ≡ min (sum + n) (2 ^ 64 - 1) → min (fold (λ a y. a + f y) sum (map v (drop i xs))) (2 ^ 64 - 1) ≡ whole
    → (min (fold (λ a y. a + f y) new (map v (drop (i + 1) xs))) (2 ^ 64 - 1) ≡ whole) × (new ≤ 2 ^ 64 - 1)
next_sum {A} {B} v f xs i x sum n new whole below is many sums left =
    let rest : List B = map v (drop (i + 1) xs) in
    let all : new ≡ min (sum + f (v x)) (2 ^ 64 - 1) = sums ∙ ap (λ k. min (sum + k) (2 ^ 64 - 1)) many ∙ plus_capped sum (f (v x)) in (
      ap (λ k. min (fold (λ a y. a + f y) k rest) (2 ^ 64 - 1)) all ∙ capped_fold f (sum + f (v x)) rest
          ∙ ap (λ (ys : List A). min (fold (λ a y. a + f y) sum (map v ys)) (2 ^ 64 - 1)) (sym (next_item xs i x below is)) ∙ left,
      capped_small (sum + n) new sums,
    )

-- a number that is not above the greatest of 64 bits
pub sum_there : (n : ℕ) → n ≤ 2 ^ 64 - 1 → n ≡ min n (2 ^ 64 - 1)
sum_there n h = omega arith

-- without units nothing is counted
pub no_units : (ps : List Place) → units_counts ps [] ≡ []
no_units [] = refl
no_units (p ∷ ps) = refl

-- no limit is above the greatest number of 64 bits
limit_below : (w : What) → limit_of w < 2 ^ 64 - 1
limit_below whats.Name = omega arith
limit_below whats.Params = omega arith
limit_below whats.Formals = omega arith
limit_below whats.Where = omega arith
limit_below whats.Nodes = omega arith
limit_below whats.Locals = omega arith
limit_below whats.Module = omega arith
limit_below whats.Literal = omega arith
limit_below whats.ProgramNodes = omega arith
limit_below whats.Tables = omega arith
limit_below whats.Exceptions = omega arith
limit_below whats.Code = omega arith
limit_below whats.Bridges = omega arith
limit_below whats.Text = omega arith

same_test_below : (l n : ℕ) → l < 2 ^ 64 - 1 → nat_lt l (min n (2 ^ 64 - 1)) ≡ nat_lt l n
same_test_below l n h = grind (arith, nat_tests)

same_test : (w : What) (n : ℕ) → nat_lt (limit_of w) (min n (2 ^ 64 - 1)) ≡ nat_lt (limit_of w) n
same_test w n = same_test_below (limit_of w) n (limit_below w)

-- what is kept does not change where a count stays at the greatest number of 64 bits
pub capped : (o : Option Excess) (w : What) (m n : ℕ) (p : Place) → m ≡ min n (2 ^ 64 - 1) → earliest o (counted w m p ∷ []) ≡ earliest o (counted w n p ∷ [])
capped o w m n p h =
    ap (λ k. earliest o (counted w k p ∷ [])) h
    ∙ ap (λ (b : Bool). if b then earlier o (record { what = w; count = min (min n (2 ^ 64 - 1)) (2 ^ 64 - 1); place = p }) else o) (same_test w n)
    ∙ ap (λ k. if nat_lt (limit_of w) n then earlier o (record { what = w; count = k; place = p }) else o) (capped_twice n)
