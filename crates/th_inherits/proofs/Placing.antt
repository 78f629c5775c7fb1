-- Places of classes.
use Rattle.std.proofs.Common.{◌≡◌, ◌≢◌, ◌∙◌, ℕ, zero, suc, ◌+◌, ◌-◌, ◌<◌, ◌≤◌, Bool, true, false, nat_eq, ◌||◌, cond, List, [], ◌∷◌, ◌++◌, length, get_or, take, map, option_map, Option, Some, None, slice_get, refl, sym, ap, arith, if◌then◌else◌}
use Rattle.std.specs.Map.{lookup}
use Rattle.std.proofs.lemmas.Bool.Decides.{nat_tests}
use Rattle.th_type.specs.Lists.{or_else, is_in}
use Rattle.th_module_rules.specs.Inheriting.{ClassRow, row_at, next_class, classes_up, cons_opt}
use Rattle.th_inherits.specs.Tables.{place_of, row_in, ArePlaces}

abbrev last_if : Bool → ℕ → Option ℕ
last_if b k = if b then Some k else None

push_in : (o : Option ℕ) (b : Bool) (k : ℕ) → option_map suc (or_else o (last_if b k)) ≡ or_else (option_map suc o) (last_if b (suc k))
push_in None true k = refl
push_in None false k = refl
push_in (Some j) b k = refl

place_step : (o o' : Option ℕ) (k : ℕ) (a b : Bool) → o' ≡ or_else o (last_if a k) → (if b then Some 0 else option_map suc o') ≡ or_else (if b then Some 0 else option_map suc o) (last_if a (suc k))
place_step o o' k a true e = refl
place_step o o' k a false e = ap (option_map suc) e ∙ push_in o a k

-- the classes with one at their end
place_last : (r : ClassRow) (xs : List ClassRow) (n : ℕ) → place_of (xs ++ r ∷ []) n ≡ or_else (place_of xs n) (last_if (nat_eq r.full n) (length xs))
place_last r [] n = refl
place_last r (x ∷ xs) n = place_step (place_of xs n) (place_of (xs ++ r ∷ []) n) (length xs) (nat_eq r.full n) (nat_eq x.full n) (place_last r xs n)

lookup_step : (o o' : Option ℕ) (v w : ℕ) (a b : Bool) → o' ≡ or_else o (last_if a v) → cond b (Some w) o' ≡ or_else (cond b (Some w) o) (last_if a v)
lookup_step o o' v w a true e = refl
lookup_step o o' v w a false e = e

lookup_last : (k v : ℕ) (es : List (ℕ × ℕ)) (n : ℕ) → lookup (nat_eq n) (es ++ (k, v) ∷ []) ≡ or_else (lookup (nat_eq n) es) (last_if (nat_eq n k) v)
lookup_last k v [] n = refl
lookup_last k v (e ∷ es) n = lookup_step (lookup (nat_eq n) es) (lookup (nat_eq n) (es ++ (k, v) ∷ [])) v e.1 (nat_eq n k) (nat_eq n e.0) (lookup_last k v es n)

turned : (a b : ℕ) (x y : Bool) → nat_eq a b ≡ x → nat_eq b a ≡ y → x ≡ y
turned a b true true e f = refl
turned a b true false e f = let s : a ≡ b = grind (arith, nat_tests) in let t : nat_eq b a ≡ true = grind (arith, nat_tests) in cc
turned a b false true e f = let s : a ≡ b = grind (arith, nat_tests) in let t : nat_eq a b ≡ true = grind (arith, nat_tests) in cc
turned a b false false e f = refl

kept_if : (o : Option ℕ) (full n k v : ℕ) (b : Bool) → nat_eq full n ≡ b → (full ≡ n → o ≡ Some v) → o ≡ or_else o (last_if b k)
kept_if None full n k v true e f = let s : full ≡ n = grind (arith, nat_tests) in let t = f s in cc
kept_if None full n k v false e f = refl
kept_if (Some j) full n k v b e f = refl

-- a class whose full name came before changes no place
pub note_known : (rows : List ClassRow) (r : ClassRow) (places : List (ℕ × ℕ)) (full v : ℕ) → lookup (nat_eq full) places ≡ Some v → ArePlaces rows places → r.full ≡ full → ArePlaces (rows ++ r ∷ []) places
note_known rows r places full v h a e = λ n.
    a n
    ∙ kept_if (place_of rows n) r.full n (length rows) v (nat_eq r.full n) refl (λ s. sym (a n) ∙ ap (λ m. lookup (nat_eq m) places) (sym s ∙ e) ∙ h)
    ∙ sym (place_last r rows n)

-- a new one has its place at the end
pub note_new : (rows : List ClassRow) (r : ClassRow) (old new : List (ℕ × ℕ)) (full place : ℕ) → new ≡ old ++ (full, place) ∷ [] → ArePlaces rows old → length rows ≡ place → r.full ≡ full → ArePlaces (rows ++ r ∷ []) new
note_new rows r old new full place h a l e = λ n.
    ap (lookup (nat_eq n)) h
    ∙ lookup_last full place old n
    ∙ ap (λ o. or_else o (last_if (nat_eq n full) place)) (a n)
    ∙ ap (λ b. or_else (place_of rows n) (last_if b place)) (turned n full (nat_eq n full) (nat_eq full n) refl refl)
    ∙ ap (λ m. or_else (place_of rows n) (last_if (nat_eq m n) place)) (sym e)
    ∙ ap (λ k. or_else (place_of rows n) (last_if (nat_eq r.full n) k)) (sym l)
    ∙ sym (place_last r rows n)

row_step : (rows : List ClassRow) (o : Option ℕ) (r : ClassRow) (x : Option ClassRow) (b : Bool) → x ≡ row_in rows o → (if b then Some r else x) ≡ row_in (r ∷ rows) (if b then Some 0 else option_map suc o)
row_step rows o r x true e = refl
row_step rows None r x false e = e
row_step rows (Some k) r x false e = e

-- the first class of a full name is that at its place
pub row_by_place : (rows : List ClassRow) (n : ℕ) → row_at rows n ≡ row_in rows (place_of rows n)
row_by_place [] n = refl
row_by_place (r ∷ rows) n = row_step rows (place_of rows n) r (row_at rows n) (nat_eq r.full n) (row_by_place rows n)

place_first : (r : ClassRow) (rows : List ClassRow) (n k : ℕ) (x : ClassRow) (b : Bool) (o : Option ℕ) → nat_eq r.full n ≡ b → ((j : ℕ) → o ≡ Some j → slice_get rows j ≡ Some x → x.full ≡ n)
    → (if b then Some 0 else option_map suc o) ≡ Some k → slice_get (r ∷ rows) k ≡ Some x → x.full ≡ n
place_first r rows n zero x true o e f h g = let s : r ≡ x = cc in let t : r.full ≡ n = grind (arith, nat_tests) in sym (ap (λ y. y.full) s) ∙ t
place_first r rows n (suc k) x true o e f h g = cc
place_first r rows n zero x false None e f h g = cc
place_first r rows n zero x false (Some j) e f h g = cc
place_first r rows n (suc k) x false None e f h g = cc
place_first r rows n (suc k) x false (Some j) e f h g = f k (let s : suc j ≡ suc k = cc in let t : j ≡ k = cc in ap Some t) g

-- the class at the place of a full name has it
pub place_full : (rows : List ClassRow) (n k : ℕ) (x : ClassRow) → place_of rows n ≡ Some k → slice_get rows k ≡ Some x → x.full ≡ n
place_full [] n k x h g = cc
place_full (r ∷ rows) n k x h g = place_first r rows n k x (nat_eq r.full n) (place_of rows n) refl (λ j e f. place_full rows n j x e f) h g

up_none : (rows : List ClassRow) (n at j : ℕ) → next_class (row_at rows at) ≡ None → is_in n (classes_up j rows at) ≡ false
up_none rows n at zero e = refl
up_none rows n at (suc j) e = ap (λ o. is_in n (cons_opt o (classes_up j rows))) e

-- a chain that ends does not come back
pub walk_none : (rows : List ClassRow) (n at j : ℕ) (o : Option ℕ) → o ≡ next_class (row_at rows at) → o ≡ None → is_in n (classes_up j rows at) ≡ false
walk_none rows n at j o e h = up_none rows n at j (sym e ∙ h)

-- one step up
pub walk_some : (rows : List ClassRow) (n at m e k : ℕ) (o : Option ℕ) → k < e → o ≡ next_class (row_at rows at) → o ≡ Some m → is_in n (classes_up (e - k) rows at) ≡ nat_eq n m || is_in n (classes_up (e - (k + 1)) rows m)
walk_some rows n at m e k o h q s =
    let t : e - k ≡ suc (e - (k + 1)) = omega (arith, h) in
    ap (λ j. is_in n (classes_up j rows at)) t ∙ ap (λ x. is_in n (cons_opt x (classes_up (e - (k + 1)) rows))) (sym q ∙ s)

-- one step up, not to where the walk began
pub walk_on : (rows : List ClassRow) (n at m e k : ℕ) (o : Option ℕ) (r : Bool) → k < e → o ≡ next_class (row_at rows at) → o ≡ Some m → m ≢ n → is_in n (classes_up (e - k) rows at) ≡ r → is_in n (classes_up (e - (k + 1)) rows m) ≡ r
walk_on rows n at m e k o r h q s d i =
    let f : nat_eq n m ≡ false = grind (arith, nat_tests) in
    sym (walk_some rows n at m e k o h q s ∙ ap (λ b. b || is_in n (classes_up (e - (k + 1)) rows m)) f) ∙ i

within_step : (o : Option ℕ) (k len : ℕ) (b : Bool) → ((j : ℕ) → o ≡ Some j → j < len) → (if b then Some 0 else option_map suc o) ≡ Some k → k < suc len
within_step o zero len b f h = omega arith
within_step o (suc k) len true f h = cc
within_step None (suc k) len false f h = cc
within_step (Some j) (suc k) len false f h = let s : suc j ≡ suc k = cc in let t = f j refl in omega (arith, s, t)

-- a place is one of the list
pub place_within : (rows : List ClassRow) (n k : ℕ) → place_of rows n ≡ Some k → k < length rows
place_within [] n k h = cc
place_within (r ∷ rows) n k h = let t = within_step (place_of rows n) k (length rows) (nat_eq r.full n) (λ j e. place_within rows n j e) h in omega (arith, t)

-- the first of a list of which each stands for something, with one more
pub take_more : {A B : Type 0} (f : A → B) (xs : List A) (k : ℕ) (x : A) → k < length xs → x ≡ get_or xs k x → take (suc k) (map f xs) ≡ take k (map f xs) ++ f x ∷ []
take_more f [] k x h e = absurd (omega (arith, h))
take_more f (y ∷ xs) zero x h e = ap (λ z. f z ∷ []) (sym e)
take_more f (y ∷ xs) (suc k) x h e = ap (λ zs. f y ∷ zs) (take_more f xs k x (omega (arith, h)) e)

pub take_long : {A B : Type 0} (f : A → B) (xs : List A) (k : ℕ) → k < length xs → length (take k (map f xs)) ≡ k
take_long f [] k h = absurd (omega (arith, h))
take_long f (y ∷ xs) zero h = refl
take_long f (y ∷ xs) (suc k) h = let e = take_long f xs k (omega (arith, h)) in omega (arith, e)

pub slice_of : {A B : Type 0} (f : A → B) (xs : List A) (k : ℕ) (x : A) → k < length xs → x ≡ get_or xs k x → slice_get (map f xs) k ≡ Some (f x)
slice_of f [] k x h e = absurd (omega (arith, h))
slice_of f (y ∷ xs) zero x h e = ap (λ z. Some (f z)) (sym e)
slice_of f (y ∷ xs) (suc k) x h e = slice_of f xs k x (omega (arith, h)) e

pub map_long : {A B : Type 0} (f : A → B) (xs : List A) → length (map f xs) ≡ length xs
map_long f [] = refl
map_long f (x ∷ xs) = let e = map_long f xs in omega (arith, e)

pub take_all : {A : Type 0} (xs : List A) (k : ℕ) → length xs ≤ k → take k xs ≡ xs
take_all [] zero h = refl
take_all [] (suc k) h = refl
take_all (x ∷ xs) zero h = absurd (omega (arith, h))
take_all (x ∷ xs) (suc k) h = ap (λ ys. x ∷ ys) (take_all xs k (omega (arith, h)))
