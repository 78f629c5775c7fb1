-- Lines of classes, and where they lead.
use Rattle.std.proofs.lemmas.Bool.Decides.{nat_tests}
use Rattle.std.proofs.Common.{◌≡◌, ℕ, zero, suc, ◌+◌, ◌<◌, ◌≤◌, List, [], ◌∷◌, map, length, get_or, Bool, true, false, nat_eq, cond, refl, sym, ap, ◌∙◌, subst, ◌⊎◌, inl, inr, arith, Option, Some, None}
use Rattle.std.proofs.lemmas.Bool.{cases_Bool, eqb-true}
use Rattle.std.specs.Prelude.{slice_get, option_map, option_and_then}
use Rattle.th_type.specs.Closure.{Distinct}
use Rattle.th_type.specs.Lists.{IsIn}
use Rattle.th_type.specs.Types.{TypeExpr}
use Rattle.th_type.specs.Subtypes.{head_of}
use Rattle.th_views.specs.Lookups.{index_of, after}
use Rattle.th_views.specs.Shapes.{Shape, names_of, find_shape, base_name, IsLine, HasLines}
use Rattle.th_shape.specs.Placed.{place_by}
use Rattle.th_shape.specs.Built.{ups_in}
use Rattle.th_shape.specs.Order.{up_in, up_at, Leads, Ending, Inner}
use Rattle.th_shape.proofs.Chaining.{get_map, got_in, index_got}

-- the place of what is inherited, by the number of the inherited class
pub place_base : (f : ℕ → Option ℕ) (s : Shape) → option_and_then (place_by f) s.inherits ≡ option_and_then f (base_name s)
place_base f s = by s.inherits
  where
    by : (o : Option TypeExpr) → option_and_then (place_by f) o ≡ option_and_then f (option_and_then head_of o)
    by None = refl
    by (Some t) = refl

-- a class that is found stands at the first place of its number
pub find_index : (S : List Shape) (n : ℕ) (s : Shape) → find_shape S n ≡ Some s → (k : ℕ) × (index_of n (names_of S) ≡ Some k) × (slice_get S k ≡ Some s) × (s.name ≡ n)
find_index [] n s e = absurd (cc)
find_index (x ∷ xs) n s e = by (cases_Bool (nat_eq x.name n)) (λ f. find_index xs n s f)
  where
    by : (nat_eq x.name n ≡ true) ⊎ (nat_eq x.name n ≡ false) → (find_shape xs n ≡ Some s → (k : ℕ) × (index_of n (names_of xs) ≡ Some k) × (slice_get xs k ≡ Some s) × (s.name ≡ n))
        → (k : ℕ) × (index_of n (names_of (x ∷ xs)) ≡ Some k) × (slice_get (x ∷ xs) k ≡ Some s) × (s.name ≡ n)
    by (inl t) again = let z : Some x ≡ Some s = sym (ap (λ b. cond b (Some x) (find_shape xs n)) t) ∙ e in let y : x ≡ s = cc in
        (0, ap (λ b. cond b (Some 0) (after (index_of n (names_of xs)))) t, z, ap (λ v. v.name) (sym y) ∙ eqb-true x.name n t)
    by (inr f) again = let r = again (sym (ap (λ b. cond b (Some x) (find_shape xs n)) f) ∙ e) in
        let z : suc r.0 ≡ r.0 + 1 = omega arith in
        (r.0 + 1, ap (λ b. cond b (Some 0) (after (index_of n (names_of xs)))) f ∙ ap after r.1, subst (λ k. slice_get (x ∷ xs) k ≡ Some s) z r.2, r.3)

-- where numbers differ each class is found by its own
pub found_self : (S : List Shape) (k : ℕ) (s : Shape) → Distinct (names_of S) → slice_get S k ≡ Some s → find_shape S s.name ≡ Some s
found_self [] k s d e = absurd (cc)
found_self (x ∷ xs) zero s d e = let z : x ≡ s = cc in subst (λ v. cond (nat_eq x.name v.name) (Some x) (find_shape xs v.name) ≡ Some v) z (ap (λ b. cond b (Some x) (find_shape xs x.name)) (self x.name))
  where
    self : (a : ℕ) → nat_eq a a ≡ true
    self a = grind (arith, nat_tests)
found_self (x ∷ xs) (suc k) s d e = by (cases_Bool (nat_eq x.name s.name)) (found_self xs k s d.1 e)
  where
    named : (ys : List Shape) (i : ℕ) → slice_get ys i ≡ Some s → IsIn s.name (names_of ys)
    named ys i f = got_in (names_of ys) i s.name (get_map (λ v. v.name) ys i ∙ ap (option_map (λ v. v.name)) f)

    by : (nat_eq x.name s.name ≡ true) ⊎ (nat_eq x.name s.name ≡ false) → find_shape xs s.name ≡ Some s → cond (nat_eq x.name s.name) (Some x) (find_shape xs s.name) ≡ Some s
    by (inl t) again = absurd (d.0 (subst (λ n. IsIn n (names_of xs)) (sym (eqb-true x.name s.name t)) (named xs k e)))
    by (inr f) again = ap (λ b. cond b (Some x) (find_shape xs s.name)) f ∙ again

-- two lines of one class are equal
pub one_line : (S : List Shape) (o : Option ℕ) (l m : List Shape) → IsLine S o l → IsLine S o m → l ≡ m
one_line S None [] [] h g = refl
one_line S None [] (x ∷ xs) h g = absurd g
one_line S None (x ∷ xs) m h g = absurd h
one_line S (Some n) [] m h g = absurd h
one_line S (Some n) (x ∷ xs) [] h g = absurd g
one_line S (Some n) (x ∷ xs) (y ∷ ys) h g =
    let e : x ≡ y = cc (h.0, g.0) in
    let r : xs ≡ ys = one_line S (base_name x) xs ys h.1 (subst (λ v. IsLine S (base_name v) ys) (sym e) g.1) in
    ap (λ v. v ∷ xs) e ∙ ap (λ v. y ∷ v) r

pub get_up : (f : ℕ → Option ℕ) (S : List Shape) (k : ℕ) (s : Shape) → slice_get S k ≡ Some s → up_at (ups_in f S) k ≡ option_and_then f (base_name s)
get_up f S k s e = ap up_in (get_map (λ v. option_and_then (place_by f) v.inherits) S k ∙ ap (option_map (λ v. option_and_then (place_by f) v.inherits)) e) ∙ place_base f s

-- a line gives a way that ends
line_ends : (S : List Shape) (k : ℕ) (s : Shape) (above : List Shape) → slice_get S k ≡ Some s → IsLine S (base_name s) above
    → (ks : List ℕ) × Leads (ups_in (λ q. index_of q (names_of S)) S) (Some k) ks None
line_ends S k s [] e l = (k ∷ [], (refl, by (base_name s) refl l))
  where
    by : (o : Option ℕ) → base_name s ≡ o → IsLine S o [] → up_at (ups_in (λ q. index_of q (names_of S)) S) k ≡ None
    by None f h = get_up (λ q. index_of q (names_of S)) S k s e ∙ ap (option_and_then (λ q. index_of q (names_of S))) f
    by (Some b) f h = absurd h
line_ends S k s (x ∷ xs) e l = by (base_name s) refl l (λ j g i. line_ends S j x xs g i)
  where
    by : (o : Option ℕ) → base_name s ≡ o → IsLine S o (x ∷ xs) → ((j : ℕ) → slice_get S j ≡ Some x → IsLine S (base_name x) xs → (ks : List ℕ) × Leads (ups_in (λ q. index_of q (names_of S)) S) (Some j) ks None)
        → (ks : List ℕ) × Leads (ups_in (λ q. index_of q (names_of S)) S) (Some k) ks None
    by None f h again = absurd h
    by (Some b) f h again =
        let q = find_index S b x h.0 in
        let r = again q.0 q.2 h.1 in
        let up : up_at (ups_in (λ q. index_of q (names_of S)) S) k ≡ Some q.0 = get_up (λ q. index_of q (names_of S)) S k s e ∙ ap (option_and_then (λ q. index_of q (names_of S))) f ∙ q.1 in
        (k ∷ r.0, (refl, subst (λ o. Leads (ups_in (λ q. index_of q (names_of S)) S) o r.0 None) (sym up) r.1))

pub within_some : {A : Type 0} (xs : List A) (k : ℕ) → k < length xs → (x : A) × (slice_get xs k ≡ Some x)
within_some [] k h = absurd (omega arith)
within_some (x ∷ xs) zero h = (x, refl)
within_some (x ∷ xs) (suc k) h = within_some xs k (omega arith)

pub some_within : {A : Type 0} (xs : List A) (k : ℕ) (x : A) → slice_get xs k ≡ Some x → k < length xs
some_within [] k x e = absurd (cc)
some_within (y ∷ ys) zero x e = omega arith
some_within (y ∷ ys) (suc k) x e = let h : k < length ys = some_within ys k x e in omega arith

pub many_map : {A B : Type 0} (f : A → B) (xs : List A) → length (map f xs) ≡ length xs
many_map f [] = refl
many_map f (x ∷ xs) = ap suc (many_map f xs)

-- the line of the class at a place
pub line_at : (S : List Shape) → Distinct (names_of S) → HasLines S → (k : ℕ) (s : Shape) → slice_get S k ≡ Some s → (above : List Shape) × IsLine S (base_name s) above
line_at S d h k s e = by (h s (got_in S k s e)).0 (h s (got_in S k s e)).1
  where
    by : (l : List Shape) → IsLine S (Some s.name) l → (above : List Shape) × IsLine S (base_name s) above
    by [] i = absurd i
    by (x ∷ xs) i = let z : x ≡ s = cc (i.0, found_self S k s d e) in (xs, subst (λ v. IsLine S (base_name v) xs) z i.1)

pub ups_end : (S : List Shape) → Distinct (names_of S) → HasLines S → Ending (ups_in (λ q. index_of q (names_of S)) S)
ups_end S d h = λ k w.
    let m : length (ups_in (λ q. index_of q (names_of S)) S) ≡ length S = many_map (λ v. option_and_then (place_by (λ q. index_of q (names_of S))) v.inherits) S in
    let x = within_some S k (omega (arith, m, w)) in
    let l = line_at S d h k x.0 x.1 in
    line_ends S k x.0 l.0 x.1 l.1

pub ups_inner : (S : List Shape) → Inner (ups_in (λ q. index_of q (names_of S)) S)
ups_inner S = λ k j e.
    let m : length (ups_in (λ q. index_of q (names_of S)) S) ≡ length S = many_map (λ v. option_and_then (place_by (λ q. index_of q (names_of S))) v.inherits) S in
    let n : length (names_of S) ≡ length S = many_map (λ v. v.name) S in
    let w : j < length (names_of S) = inner k j e in omega arith
  where
    some : (o : Option Shape) (j : ℕ) → up_in (option_map (λ v. option_and_then (place_by (λ q. index_of q (names_of S))) v.inherits) o) ≡ Some j → j < length (names_of S)
    some None j e = absurd (cc)
    some (Some s) j e = base (base_name s) j (sym (place_base (λ q. index_of q (names_of S)) s) ∙ e)
      where
        base : (b : Option ℕ) (j : ℕ) → option_and_then (λ q. index_of q (names_of S)) b ≡ Some j → j < length (names_of S)
        base None j f = absurd (cc)
        base (Some n) j f = some_within (names_of S) j n (index_got (names_of S) n j f)

    inner : (k j : ℕ) → up_at (ups_in (λ q. index_of q (names_of S)) S) k ≡ Some j → j < length (names_of S)
    inner k j e = some (slice_get S k) j (sym (ap up_in (get_map (λ v. option_and_then (place_by (λ q. index_of q (names_of S))) v.inherits) S k)) ∙ e)

-- places by equal functions
pub same_place : (f g : ℕ → Option ℕ) → ((q : ℕ) → f q ≡ g q) → (t : TypeExpr) → place_by f t ≡ place_by g t
same_place f g e t = by (head_of t)
  where
    by : (o : Option ℕ) → option_and_then f o ≡ option_and_then g o
    by None = refl
    by (Some n) = e n

pub same_base : (f g : ℕ → Option ℕ) → ((q : ℕ) → f q ≡ g q) → (o : Option TypeExpr) → option_and_then (place_by f) o ≡ option_and_then (place_by g) o
same_base f g e None = refl
same_base f g e (Some t) = same_place f g e t

pub same_ups : (f g : ℕ → Option ℕ) → ((q : ℕ) → f q ≡ g q) → (S : List Shape) → ups_in f S ≡ ups_in g S
same_ups f g e [] = refl
same_ups f g e (s ∷ ss) = ap (λ o. o ∷ ups_in f ss) (same_base f g e s.inherits) ∙ ap (λ l. option_and_then (place_by g) s.inherits ∷ l) (same_ups f g e ss)
