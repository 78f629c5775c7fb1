-- The walk through classes gives an order in which each stands after the class that it inherits.
use Rattle.std.proofs.Common.{◌≡◌, ℕ, zero, suc, ◌+◌, ◌<◌, ◌≤◌, List, [], ◌∷◌, ◌++◌, length, get_or, take, set, reverse, replicate, Bool, true, false, nat_eq, cond, refl, sym, ap, ◌∙◌, subst, ◌⊎◌, inl, inr, arith, Option, Some, None, append_assoc, append-nil, length-append}
use Rattle.std.proofs.lemmas.Bool.{cases_Bool, eqb-true}
use Rattle.std.proofs.lemmas.Bool.Decides.{nat_tests}
use Rattle.std.proofs.lemmas.List.{reverse-append, length-reverse}
use Rattle.std.specs.Prelude.{slice_get, ◌||◌}
use Rattle.th_type.specs.Lists.{is_in}
use Rattle.th_shape.specs.Order.{up_in, up_at, Leads, Ending, Inner, Closed, IsOrder}
use Rattle.th_shape.specs.Walk.{gaps, Stops, Marked, Climbed, Placing}

-- ways
pub leads_more : (ups : List (Option ℕ)) (o : Option ℕ) (ks : List ℕ) (k : ℕ) → Leads ups o ks (Some k) → Leads ups o (ks ++ k ∷ []) (up_at ups k)
leads_more ups o [] k h = (h, refl)
leads_more ups o (x ∷ xs) k h = (h.0, leads_more ups (up_at ups x) xs k h.1)

leads_join : (ups : List (Option ℕ)) (o e f : Option ℕ) (ks ls : List ℕ) → Leads ups o ks e → Leads ups e ls f → Leads ups o (ks ++ ls) f
leads_join ups o e f [] ls h g = subst (λ x. Leads ups x ls f) (sym h) g
leads_join ups o e f (k ∷ ks) ls h g = (h.0, leads_join ups (up_at ups k) e f ks ls h.1 g)

-- two ways to none are as long
same_way : (ups : List (Option ℕ)) (o : Option ℕ) (ks ls : List ℕ) → Leads ups o ks None → Leads ups o ls None → length ks ≡ length ls
same_way ups o [] [] h g = refl
same_way ups o [] (l ∷ ls) h g = absurd (cc (h, g.0))
same_way ups o (k ∷ ks) [] h g = absurd (cc (h.0, g))
same_way ups o (k ∷ ks) (l ∷ ls) h g = let e : l ≡ k = cc (h.0, g.0) in ap suc (same_way ups (up_at ups k) ks ls h.1 (subst (λ x. Leads ups (up_at ups x) ls None) e g.1))

-- the rest of a way from a place on it
rest_of : (ups : List (Option ℕ)) (o e : Option ℕ) (ks : List ℕ) (k : ℕ) → Leads ups o ks e → is_in k ks ≡ true → (ls : List ℕ) × Leads ups (up_at ups k) ls e
rest_of ups o e [] k h t = absurd (cc)
rest_of ups o e (x ∷ xs) k h t = by (cases_Bool (nat_eq k x)) (λ s. rest_of ups (up_at ups x) e xs k h.1 s)
  where
    by : (nat_eq k x ≡ true) ⊎ (nat_eq k x ≡ false) → (is_in k xs ≡ true → (ls : List ℕ) × Leads ups (up_at ups k) ls e) → (ls : List ℕ) × Leads ups (up_at ups k) ls e
    by (inl q) again = (xs, subst (λ y. Leads ups (up_at ups y) xs e) (sym (eqb-true k x q)) h.1)
    by (inr q) again = again (rw q at t)

-- a way that ends in the end does not come back to a place on it
no_loop : (ups : List (Option ℕ)) (o : Option ℕ) (ks tail : List ℕ) (k : ℕ) → Leads ups o ks (Some k) → is_in k ks ≡ true → Leads ups (Some k) tail None → ⊥
no_loop ups o ks tail k h t g =
    let r = rest_of ups o (Some k) ks k h t in
    let whole : Leads ups (Some k) (k ∷ r.0 ++ tail) None = (refl, leads_join ups (up_at ups k) (Some k) None r.0 tail r.1 g) in
    let e : length (k ∷ r.0 ++ tail) ≡ length tail = same_way ups (Some k) (k ∷ r.0 ++ tail) tail whole g in
    let l : length (r.0 ++ tail) ≡ length r.0 + length tail = length-append r.0 tail in
    absurd (omega arith)

-- members
in_append : (x : ℕ) (xs ys : List ℕ) → is_in x (xs ++ ys) ≡ (is_in x xs || is_in x ys)
in_append x [] ys = refl
in_append x (z ∷ zs) ys = by (nat_eq x z) (in_append x zs ys)
  where
    by : (b : Bool) → is_in x (zs ++ ys) ≡ (is_in x zs || is_in x ys) → (b || is_in x (zs ++ ys)) ≡ ((b || is_in x zs) || is_in x ys)
    by true e = refl
    by false e = e

or_swap : (a b : Bool) → (a || b) ≡ (b || a)
or_swap true true = refl
or_swap true false = refl
or_swap false true = refl
or_swap false false = refl

or_nothing : (a : Bool) → (a || false) ≡ a
or_nothing true = refl
or_nothing false = refl

reverse_more : (x : ℕ) (xs : List ℕ) → reverse (x ∷ xs) ≡ reverse xs ++ x ∷ []
reverse_more x xs = reverse-append (x ∷ []) xs

in_reverse : (x : ℕ) (xs : List ℕ) → is_in x (reverse xs) ≡ is_in x xs
in_reverse x [] = refl
in_reverse x (z ∷ zs) = ap (is_in x) (reverse_more z zs) ∙ in_append x (reverse zs) (z ∷ []) ∙ ap (λ b. b || (nat_eq x z || false)) (in_reverse x zs) ∙ or_swap (is_in x zs) (nat_eq x z || false) ∙ ap (λ b. b || is_in x zs) (or_nothing (nat_eq x z))

length_reverse : (xs : List ℕ) → length (reverse xs) ≡ length xs
length_reverse xs = length-reverse xs

or_left : (a b : Bool) → a ≡ true → (a || b) ≡ true
or_left true b h = refl
or_left false b h = absurd (cc)

or_right : (a b : Bool) → b ≡ true → (a || b) ≡ true
or_right true b h = refl
or_right false b h = h

-- marks
get_set : (l : List Bool) (k x : ℕ) → k < length l → get_or (set l k true) x false ≡ cond (nat_eq x k) true (get_or l x false)
get_set [] k x h = absurd (omega arith)
get_set (b ∷ bs) zero zero h = refl
get_set (b ∷ bs) zero (suc x) h = let e : nat_eq (suc x) 0 ≡ false = grind (arith, nat_tests) in rw e refl
get_set (b ∷ bs) (suc k) zero h = let e : nat_eq 0 (suc k) ≡ false = grind (arith, nat_tests) in rw e refl
get_set (b ∷ bs) (suc k) (suc x) h = get_set bs k x (omega arith) ∙ ap (λ c. cond c true (get_or bs x false)) same
  where
    same : nat_eq x k ≡ nat_eq (suc x) (suc k)
    same = grind (arith, nat_tests)

pub set_gaps : (l : List Bool) (k : ℕ) → k < length l → get_or l k false ≡ false → gaps (set l k true) + 1 ≡ gaps l
set_gaps [] k h e = absurd (omega arith)
set_gaps (true ∷ bs) zero h e = let z : true ≡ false = e in absurd (cc (z))
set_gaps (false ∷ bs) zero h e = omega arith
set_gaps (b ∷ bs) (suc k) h e = let i : gaps (set bs k true) + 1 ≡ gaps bs = set_gaps bs k (omega arith) e in omega arith

pub length_set : (l : List Bool) (k : ℕ) → length (set l k true) ≡ length l
length_set [] k = refl
length_set (b ∷ bs) zero = refl
length_set (b ∷ bs) (suc k) = ap suc (length_set bs k)

pub marked_start : (old : List Bool) → Marked old old []
marked_start old = record { marks = λ x. refl; count = omega arith; many = refl }

pub marked_more : (old mid new : List Bool) (path more : List ℕ) (k : ℕ) → Marked old mid path → k < length mid → get_or mid k false ≡ false → new ≡ set mid k true → more ≡ path ++ k ∷ [] → Marked old new more
marked_more old mid new path more k m h f e g = subst (λ l. Marked old l more) (sym e) (subst (λ p. Marked old (set mid k true) p) (sym g) (record {
  marks = λ x. get_set mid k x h ∙ ap (cond (nat_eq x k) true) (m.marks x) ∙ swap (nat_eq x k) (is_in x path) (get_or old x false) ∙ ap (λ b. cond b true (get_or old x false)) (sym (in_append x path (k ∷ []) ∙ ap (λ b. is_in x path || b) (or_nothing (nat_eq x k))));
  count = let a : gaps (set mid k true) + 1 ≡ gaps mid = set_gaps mid k h f in let b : length path + gaps mid ≡ gaps old = m.count in let c : length (path ++ k ∷ []) ≡ length path + 1 = length-append path (k ∷ []) in omega arith;
  many = length_set mid k ∙ m.many;
}))
  where
    swap : (a b c : Bool) → cond a true (cond b true c) ≡ cond (b || a) true c
    swap true true c = refl
    swap true false c = refl
    swap false true c = refl
    swap false false c = refl

-- the order
get_before : (xs : List ℕ) (y i k : ℕ) → i < length xs → slice_get (xs ++ y ∷ []) i ≡ Some k → slice_get xs i ≡ Some k
get_before [] y i k h e = absurd (omega arith)
get_before (x ∷ xs) y zero k h e = e
get_before (x ∷ xs) y (suc i) k h e = get_before xs y i k (omega arith) e

take_before : (xs : List ℕ) (y i : ℕ) → i ≤ length xs → take i (xs ++ y ∷ []) ≡ take i xs
take_before xs y zero h = refl
take_before [] y (suc i) h = absurd (omega arith)
take_before (x ∷ xs) y (suc i) h = ap (λ l. x ∷ l) (take_before xs y i (omega arith))

get_last : (xs : List ℕ) (y i k : ℕ) → length xs ≤ i → slice_get (xs ++ y ∷ []) i ≡ Some k → (i ≡ length xs) × (k ≡ y)
get_last [] y zero k h e = (refl, cc)
get_last [] y (suc i) k h e = absurd (cc)
get_last (x ∷ xs) y zero k h e = absurd (omega arith)
get_last (x ∷ xs) y (suc i) k h e = let r = get_last xs y i k (omega arith) e in (ap suc r.0, r.1)

take_whole : (xs : List ℕ) → take (length xs) xs ≡ xs
take_whole [] = refl
take_whole (x ∷ xs) = ap (λ l. x ∷ l) (take_whole xs)

-- what a place leads to is there
abbrev There : Option ℕ → List ℕ → Type 0
There None order = Unit
There (Some j) order = is_in j order ≡ true

lt_or_le : (i n : ℕ) → (i < n) ⊎ (n ≤ i)
lt_or_le i zero = inr (omega arith)
lt_or_le zero (suc n) = inl (omega arith)
lt_or_le (suc i) (suc n) = step (lt_or_le i n)
  where
    step : (i < n) ⊎ (n ≤ i) → (suc i < suc n) ⊎ (suc n ≤ suc i)
    step (inl h) = inl (omega arith)
    step (inr h) = inr (omega arith)

closed_more : (ups : List (Option ℕ)) (xs : List ℕ) (y : ℕ) → Closed ups xs → There (up_at ups y) xs → Closed ups (xs ++ y ∷ [])
closed_more ups xs y c t i k j g u = by (lt_or_le i (length xs))
  where
    by : (i < length xs) ⊎ (length xs ≤ i) → is_in j (take i (xs ++ y ∷ [])) ≡ true
    by (inl h) = subst (λ l. is_in j l ≡ true) (sym (take_before xs y i (omega arith))) (c i k j (get_before xs y i k h g) u)
    by (inr h) = let r = get_last xs y i k h g in
        let s : There (Some j) xs = subst (λ o. There o xs) (ap (up_at ups) (sym r.1) ∙ u) t in
        subst (λ l. is_in j l ≡ true) (sym (ap (λ n. take n (xs ++ y ∷ [])) r.0 ∙ take_before xs y (length xs) (omega arith) ∙ take_whole xs)) s

there_more : (o : Option ℕ) (xs ys : List ℕ) → There o xs → There o (xs ++ ys)
there_more None xs ys t = tt
there_more (Some j) xs ys t = in_append j xs ys ∙ or_left (is_in j xs) (is_in j ys) t

closed_path : (ups : List (Option ℕ)) (order ks : List ℕ) (o e : Option ℕ) → Closed ups order → Leads ups o ks e → There e order → Closed ups (order ++ reverse ks) × There o (order ++ reverse ks)
closed_path ups order [] o e c h t = (subst (Closed ups) (sym (append-nil order)) c, subst (There o) (sym (append-nil order)) (subst (λ x. There x order) (sym h) t))
closed_path ups order (k ∷ ks) o e c h t =
    let r = closed_path ups order ks (up_at ups k) e c h.1 t in
    let s : (order ++ reverse ks) ++ k ∷ [] ≡ order ++ (reverse ks ++ k ∷ []) = append_assoc order (reverse ks) (k ∷ []) in (
      subst (λ l. Closed ups (order ++ l)) (sym (reverse_more k ks)) (subst (Closed ups) s (closed_more ups (order ++ reverse ks) k r.0 r.1)),
      subst (λ l. There o (order ++ l)) (sym (reverse_more k ks)) (subst (λ x. There x (order ++ (reverse ks ++ k ∷ []))) (sym h.0)
          (in_append k order (reverse ks ++ k ∷ []) ∙ or_right (is_in k order) (is_in k (reverse ks ++ k ∷ []))
          (in_append k (reverse ks) (k ∷ []) ∙ or_right (is_in k (reverse ks)) (nat_eq k k || false) (or_left (nat_eq k k) false same)))),
    )
  where
    same : nat_eq k k ≡ true
    same = grind (arith, nat_tests)

-- the end of a way is none or in the order
end_there : (ups : List (Option ℕ)) (old : List Bool) (order path : List ℕ) (from : ℕ) (e : Option ℕ) → Ending ups → Inner ups → from < length ups → ((x : ℕ) → get_or old x false ≡ is_in x order) → Leads ups (Some from) path e → Stops old path e → There e order
end_there ups old order path from None n i w m h s = tt
end_there ups old order path from (Some k) n i w m h (inl a) = sym (m k) ∙ a
end_there ups old order path from (Some k) n i w m h (inr b) = absurd (no_loop ups (Some from) path (n k (end_within (Some from) path (λ j q. subst (λ x. x < length ups) (some_same from j q) w) h)).0 k h b (n k (end_within (Some from) path (λ j q. subst (λ x. x < length ups) (some_same from j q) w) h)).1)
  where
    some_same : (a b : ℕ) → Some a ≡ Some b → a ≡ b
    some_same a b q = cc

    end_within : (o : Option ℕ) (ks : List ℕ) → ((j : ℕ) → o ≡ Some j → j < length ups) → Leads ups o ks (Some k) → k < length ups
    end_within o [] f g = f k g
    end_within o (x ∷ xs) f g = end_within (up_at ups x) xs (λ j q. i x j q) g.1

pub placing_more : (ups : List (Option ℕ)) (old new : List Bool) (order more path : List ℕ) (from : ℕ) → Ending ups → Inner ups → from < length ups → Placing ups old order → Climbed ups old new from path → more ≡ order ++ reverse path → Placing ups new more
placing_more ups old new order more path from n i w p c e = subst (Placing ups new) (sym e) (record {
  closed = (closed_path ups order path (Some from) c.end p.closed c.leads (end_there ups old order path from c.end n i w p.marks c.leads c.stops)).0;
  marks = λ x. c.marked.marks x ∙ ap (cond (is_in x path) true) (p.marks x) ∙ turn (is_in x path) (is_in x order) ∙ sym (in_append x order (reverse path) ∙ ap (λ b. is_in x order || b) (in_reverse x path));
  count = let a : length path + gaps new ≡ gaps old = c.marked.count in let b : length order + gaps old ≡ length ups = p.count in
      let l : length (order ++ reverse path) ≡ length order + length (reverse path) = length-append order (reverse path) in let r : length (reverse path) ≡ length path = length_reverse path in omega arith;
  many = c.marked.many ∙ p.many;
})
  where
    turn : (a b : Bool) → cond a true b ≡ (b || a)
    turn true true = refl
    turn true false = refl
    turn false true = refl
    turn false false = refl

pub kept_marks : (ups : List (Option ℕ)) (old new : List Bool) (from : ℕ) (path : List ℕ) → Climbed ups old new from path → (x : ℕ) → get_or old x false ≡ true → get_or new x false ≡ true
kept_marks ups old new from path c x h = c.marked.marks x ∙ by (is_in x path)
  where
    by : (b : Bool) → cond b true (get_or old x false) ≡ true
    by true = refl
    by false = h

-- at the start and at the end
blank : (n x : ℕ) → get_or (replicate n false) x false ≡ false
blank zero x = refl
blank (suc n) zero = refl
blank (suc n) (suc x) = blank n x

blank_gaps : (n : ℕ) → gaps (replicate n false) ≡ n
blank_gaps zero = refl
blank_gaps (suc n) = let e : gaps (replicate n false) ≡ n = blank_gaps n in omega arith

blank_length : (n : ℕ) → length (replicate n false) ≡ n
blank_length zero = refl
blank_length (suc n) = ap suc (blank_length n)

pub placing_start : (ups : List (Option ℕ)) (marked : List Bool) (order : List ℕ) → marked ≡ replicate (length ups) false → order ≡ [] → Placing ups marked order
placing_start ups marked order e f = subst (λ l. Placing ups l order) (sym e) (subst (Placing ups (replicate (length ups) false)) (sym f) (record {
  closed = λ i k j g u. absurd (cc);
  marks = λ x. blank (length ups) x;
  count = let a : gaps (replicate (length ups) false) ≡ length ups = blank_gaps (length ups) in omega arith;
  many = blank_length (length ups);
}))

no_gaps : (l : List Bool) → ((x : ℕ) → x < length l → get_or l x false ≡ true) → gaps l ≡ 0
no_gaps [] h = refl
no_gaps (true ∷ bs) h = let r : gaps bs ≡ 0 = no_gaps bs (λ x g. h (suc x) (omega arith)) in omega arith
no_gaps (false ∷ bs) h = let z : false ≡ true = h 0 (omega arith) in absurd (cc (z))

marked_within : (l : List Bool) (x : ℕ) → get_or l x false ≡ true → x < length l
marked_within [] x h = absurd (cc)
marked_within (b ∷ bs) zero h = omega arith
marked_within (b ∷ bs) (suc x) h = let r : x < length bs = marked_within bs x h in omega arith

got_in : (l : List ℕ) (i k : ℕ) → slice_get l i ≡ Some k → is_in k l ≡ true
got_in [] i k e = absurd (cc)
got_in (x ∷ xs) zero k e = let z : k ≡ x = cc in or_left (nat_eq k x) (is_in k xs) (subst (λ y. nat_eq k y ≡ true) z same)
  where
    same : nat_eq k k ≡ true
    same = grind (arith, nat_tests)
got_in (x ∷ xs) (suc i) k e = or_right (nat_eq k x) (is_in k xs) (got_in xs i k e)

pub order_done : (ups : List (Option ℕ)) (marked : List Bool) (order : List ℕ) (n : ℕ) → Placing ups marked order → ((x : ℕ) → x < n → get_or marked x false ≡ true) → length ups ≤ n → IsOrder ups order
order_done ups marked order n p h l = record {
  closed = p.closed;
  all = λ k g. sym (p.marks k) ∙ h k (omega arith);
  many = let m : length marked ≡ length ups = p.many in let z : gaps marked ≡ 0 = no_gaps marked (λ x g. h x (omega arith)) in let c : length order + gaps marked ≡ length ups = p.count in omega arith;
  within = λ i k g. let w : k < length marked = marked_within marked k (p.marks k ∙ got_in order i k g) in let m : length marked ≡ length ups = p.many in omega arith;
}

pub marks_more : (marked new : List Bool) (k : ℕ) → ((x : ℕ) → x < k → get_or marked x false ≡ true) → ((x : ℕ) → get_or marked x false ≡ true → get_or new x false ≡ true) → get_or new k false ≡ true → (x : ℕ) → x < k + 1 → get_or new x false ≡ true
marks_more marked new k h f g x l = by (lt_or_le x k)
  where
    by : (x < k) ⊎ (k ≤ x) → get_or new x false ≡ true
    by (inl a) = f x (h x a)
    by (inr b) = let e : k ≡ x = omega arith in subst (λ y. get_or new y false ≡ true) e g

pub up_got : (ups : List (Option ℕ)) (k : ℕ) (d : Option ℕ) → k < length ups → up_at ups k ≡ get_or ups k d
up_got [] k d h = absurd (omega arith)
up_got (o ∷ os) zero d h = refl
up_got (o ∷ os) (suc k) d h = up_got os k d (omega arith)

pub climbed_end : (ups : List (Option ℕ)) (old new : List Bool) (from : ℕ) (path : List ℕ) (next : Option ℕ) → Leads ups (Some from) path next → Marked old new path → (next ≡ Some from) ⊎ (get_or new from false ≡ true) → next ≡ None → Climbed ups old new from path
climbed_end ups old new from path next l m f e = record {
  end = None;
  leads = subst (Leads ups (Some from) path) e l;
  stops = tt;
  marked = m;
  first = elim f as (λ _. get_or new from false ≡ true) [ inl q ↦ absurd (cc (q, e)) | inr q ↦ q ];
}

pub climbed_stop : (ups : List (Option ℕ)) (old new : List Bool) (from k : ℕ) (path : List ℕ) (next : Option ℕ) → Leads ups (Some from) path next → Marked old new path → (next ≡ Some from) ⊎ (get_or new from false ≡ true) → next ≡ Some k → get_or new k false ≡ true
    → Climbed ups old new from path
climbed_stop ups old new from k path next l m f e s = record {
  end = Some k;
  leads = subst (Leads ups (Some from) path) e l;
  stops = by (is_in k path) refl;
  marked = m;
  first = elim f as (λ _. get_or new from false ≡ true) [ inl q ↦ (let z : k ≡ from = cc (q, e) in subst (λ x. get_or new x false ≡ true) z s) | inr q ↦ q ];
}
  where
    by : (b : Bool) → is_in k path ≡ b → Stops old path (Some k)
    by true q = inr q
    by false q = inl (sym (ap (λ b. cond b true (get_or old k false)) q) ∙ sym (m.marks k) ∙ s)

-- the marks after one more place
pub step_first : (mid : List Bool) (from k : ℕ) (next more : Option ℕ) → k < length mid → next ≡ Some k → (next ≡ Some from) ⊎ (get_or mid from false ≡ true) → (more ≡ Some from) ⊎ (get_or (set mid k true) from false ≡ true)
step_first mid from k next more h e f = inr (get_set mid k from h ∙ elim f as (λ _. cond (nat_eq from k) true (get_or mid from false) ≡ true) [
  | inl q ↦ (let z : k ≡ from = cc (q, e) in subst (λ x. cond (nat_eq from x) true (get_or mid from false) ≡ true) (sym z) (here from))
  | inr q ↦ there (nat_eq from k) q
])
  where
    self : (a : ℕ) → nat_eq a a ≡ true
    self a = grind (arith, nat_tests)

    here : (a : ℕ) → cond (nat_eq a a) true (get_or mid a false) ≡ true
    here a = ap (λ b. cond b true (get_or mid a false)) (self a)

    there : (b : Bool) → get_or mid from false ≡ true → cond b true (get_or mid from false) ≡ true
    there true q = refl
    there false q = q

pub next_within : (ups : List (Option ℕ)) (mid : List Bool) (k : ℕ) (d : Option ℕ) (y : ℕ) → Inner ups → k < length ups → length mid ≡ length ups → get_or ups k d ≡ Some y → y < length (set mid k true)
next_within ups mid k d y i h m e =
    let w : y < length ups = i k y (up_got ups k d h ∙ e) in
    let l : length (set mid k true) ≡ length mid = length_set mid k in omega arith
