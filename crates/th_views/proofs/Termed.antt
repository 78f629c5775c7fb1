-- Results at homes, and classes that extend a group.
use Rattle.std.proofs.Common.{◌≡◌, ℕ, zero, suc, Bool, true, false, nat_eq, cond, refl, ap, ◌∙◌, ◌⊎◌, inl, inr, Option, Some, None}
use Rattle.std.proofs.lemmas.Bool.{cases_Bool, eqb-true}
use Rattle.th_views.specs.Tree.{On}
use Rattle.th_views.specs.Terms.{Term, Whole, Param, Array, Named, Terms, NoTerm, With, nth, sub, sub_all, same, same_all, same_result, Full, Type', Fulls, Bare, Under, written_in, or_else, sub_found, result_of, result_in, fits_found, kept_in, is_found, own_by, shape, home_result, home_result_in, OnFull}

sub_nth : (a b : Terms) (k : ℕ) → sub a (nth b k) ≡ nth (sub_all a b) k
sub_nth a NoTerm k = refl
sub_nth a (With t ts) zero = refl
sub_nth a (With t ts) (suc k) = sub_nth a ts k

-- substitutions compose, with no condition on the parameters
mutual
  pub sub_sub : (a b : Terms) (t : Term) → sub a (sub b t) ≡ sub (sub_all a b) t
  sub_sub a b (Whole k) = refl
  sub_sub a b (Param k) = sub_nth a b k
  sub_sub a b (Array t) = ap Array (sub_sub a b t)
  sub_sub a b (Named n ts) = ap (Named n) (sub_sub_all a b ts)

  pub sub_sub_all : (a b ts : Terms) → sub_all a (sub_all b ts) ≡ sub_all (sub_all a b) ts
  sub_sub_all a b NoTerm = refl
  sub_sub_all a b (With t ts) = let e : sub a (sub b t) ≡ sub (sub_all a b) t = sub_sub a b t in
      let f : sub_all a (sub_all b ts) ≡ sub_all (sub_all a b) ts = sub_sub_all a b ts in cc

both : (a b : Bool) → cond a b false ≡ true → (a ≡ true) × (b ≡ true)
both true b h = (refl, h)
both false b h = absurd (cc)

named_same : (n m : ℕ) (ts us : Terms) → (nat_eq n m ≡ true) × (same_all ts us ≡ true) → (same_all ts us ≡ true → ts ≡ us) → Named n ts ≡ Named m us
named_same n m ts us h g = let e : n ≡ m = eqb-true n m h.0 in let f : ts ≡ us = g h.1 in cc

with_same : (t u : Term) (ts us : Terms) → (same t u ≡ true) × (same_all ts us ≡ true) → (same t u ≡ true → t ≡ u) → (same_all ts us ≡ true → ts ≡ us) → With t ts ≡ With u us
with_same t u ts us h f g = let e : t ≡ u = f h.0 in let k : ts ≡ us = g h.1 in cc

mutual
  pub same_true : (t u : Term) → same t u ≡ true → t ≡ u
  same_true (Whole k) (Whole j) h = ap Whole (eqb-true k j h)
  same_true (Whole k) (Param j) h = absurd (cc)
  same_true (Whole k) (Array u) h = absurd (cc)
  same_true (Whole k) (Named n us) h = absurd (cc)
  same_true (Param k) (Whole j) h = absurd (cc)
  same_true (Param k) (Param j) h = ap Param (eqb-true k j h)
  same_true (Param k) (Array u) h = absurd (cc)
  same_true (Param k) (Named n us) h = absurd (cc)
  same_true (Array t) (Whole j) h = absurd (cc)
  same_true (Array t) (Param j) h = absurd (cc)
  same_true (Array t) (Array u) h = ap Array (same_true t u h)
  same_true (Array t) (Named n us) h = absurd (cc)
  same_true (Named n ts) (Whole j) h = absurd (cc)
  same_true (Named n ts) (Param j) h = absurd (cc)
  same_true (Named n ts) (Array u) h = absurd (cc)
  same_true (Named n ts) (Named m us) h = named_same n m ts us (both (nat_eq n m) (same_all ts us) h) (λ k. same_all_true ts us k)

  pub same_all_true : (ts us : Terms) → same_all ts us ≡ true → ts ≡ us
  same_all_true NoTerm NoTerm h = refl
  same_all_true NoTerm (With u us) h = absurd (cc)
  same_all_true (With t ts) NoTerm h = absurd (cc)
  same_all_true (With t ts) (With u us) h = with_same t u ts us (both (same t u) (same_all ts us) h) (λ k. same_true t u k) (λ k. same_all_true ts us k)

pub same_result_true : (a b : Option Term) → same_result a b ≡ true → a ≡ b
same_result_true None None h = refl
same_result_true None (Some u) h = absurd (cc)
same_result_true (Some t) None h = absurd (cc)
same_result_true (Some t) (Some u) h = ap Some (same_true t u h)

-- with the result kept from all supertypes, and one of them there, theirs is it
kept_head : (r : Option Term) (o rest : Option (Option Term)) → fits_found r o ≡ true → is_found (or_else o rest) ≡ true
    → (is_found rest ≡ true → rest ≡ Some r) → or_else o rest ≡ Some r
kept_head r None rest f h g = g h
kept_head r (Some q) rest f h g = ap Some (same_result_true q r f)

kept_found : (r : Option Term) (ss : Fulls) (m : ℕ) → kept_in r ss m ≡ true → is_found (result_in ss m) ≡ true → result_in ss m ≡ Some r
kept_found r Bare m k h = absurd (cc)
kept_found r (Under a s rest) m k h = let q : (fits_found r (sub_found a (result_of s m)) ≡ true) × (kept_in r rest m ≡ true) = both (fits_found r (sub_found a (result_of s m))) (kept_in r rest m) k in
    kept_head r (sub_found a (result_of s m)) (result_in rest m) q.0 h (λ g. kept_found r rest m q.1 g)

own_cases : (w : Option (Option Term)) (ss : Fulls) (m : ℕ) (hr : Option (Option Term)) → hr ≡ result_in ss m → cond (own_by w ss m) w hr ≡ or_else w (result_in ss m)
own_cases None ss m hr e = e
own_cases (Some r) ss m hr e = by (cases_Bool (is_found (result_in ss m))) (cases_Bool (kept_in r ss m))
  where
    by : (is_found (result_in ss m) ≡ true) ⊎ (is_found (result_in ss m) ≡ false) → (kept_in r ss m ≡ true) ⊎ (kept_in r ss m ≡ false)
        → cond (cond (is_found (result_in ss m)) (cond (kept_in r ss m) false true) true) (Some r) hr ≡ Some r
    by (inl a) (inl b) = rw (a, b) (e ∙ kept_found r ss m b a)
    by (inl a) (inr b) = rw (a, b) refl
    by (inr a) b = rw a refl

-- a method's result in a type is the home's, carried down
mutual
  pub home_is : (x : Full) (m : ℕ) → home_result x m ≡ result_of x m
  home_is (Type' n f ws ss) m = own_cases (written_in ws m) ss m (home_result_in ss m) (home_is_in ss m)

  pub home_is_in : (ss : Fulls) (m : ℕ) → home_result_in ss m ≡ result_in ss m
  home_is_in Bare m = refl
  home_is_in (Under a s rest) m = let e : home_result s m ≡ result_of s m = home_is s m in let f : home_result_in rest m ≡ result_in rest m = home_is_in rest m in cc

-- with the arguments forgotten, the type is on the chain of the shapes
pub on_shape : (x t : Full) (a b : Terms) → OnFull x a t b → On (shape x) (shape t)
on_shape (Type' n f ws ss) t a b (inl h) = inl (ap shape h.0)
on_shape (Type' n f ws Bare) t a b (inr h) = absurd h
on_shape (Type' n f ws (Under c s rest)) t a b (inr h) = inr (on_shape s t (sub_all a c) b h)
