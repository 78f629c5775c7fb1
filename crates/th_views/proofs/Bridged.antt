-- What a body returns arrives at each caller's view.
use Rattle.std.proofs.Common.{◌≡◌, ℕ, List, [], ◌∷◌, Bool, true, false, cond, refl, sym, ap, ◌∙◌, subst, ◌⊎◌, inl, inr, Option, Some, None}
use Rattle.std.proofs.lemmas.Bool.{cases_Bool}
use Rattle.th_views.specs.Chain.{among}
use Rattle.th_views.specs.Terms.{Term, Whole, Param, Array, Named, Terms, sub, sub_all, sub_result, Full, Type', Fulls, Bare, Under, written_in, or_else, sub_found, result_of, result_in, is_found}
use Rattle.th_views.specs.Bridges.{Kind, Absent, Typed, Hidden, lift, Made, over, hidden_if, sig, found_up, found, result_in_kind, out, At, SigAt, param_found, parametric, parametric_in, Reach, ReachIn, Fits, Conf, Rule8, Rule8In, RulesAt, Rules, gap}
use Rattle.th_views.proofs.Termed.{sub_sub}

sub_result_twice : (a b : Terms) (r : Option Term) → sub_result a (sub_result b r) ≡ sub_result (sub_all a b) r
sub_result_twice a b None = refl
sub_result_twice a b (Some t) = ap Some (sub_sub a b t)

true_cond : (a b : Bool) → b ≡ true → cond a true b ≡ true
true_cond true b h = refl
true_cond false b h = h

or_true : (a b : Bool) → a ≡ true → cond a true b ≡ true
or_true true b h = refl
or_true false b h = absurd (cc)

found_or : (a b : Option (Option Term)) → is_found b ≡ true → is_found (or_else a b) ≡ true
found_or None b h = h
found_or (Some r) b h = refl

found_first : (d : Terms) (o b : Option (Option Term)) → is_found o ≡ true → is_found (or_else (sub_found d o) b) ≡ true
found_first d None b h = absurd (cc)
found_first d (Some r) b h = refl

pub record TypedSig (k : Kind) : Type 0 where
  pub result : Option Term
  pub is : k ≡ Typed result

over_some : (a : Terms) (o : Option (Option Term)) (k : Kind) (q : Option Term) → o ≡ Some q → over a o k ≡ Typed (sub_result a q)
over_some a o k q e = rw e refl

over_typed : (a : Terms) (o w : Option (Option Term)) (u : Terms) (k : Kind) (r : Option Term) → k ≡ Typed r → TypedSig (over a o (hidden_if (lift u k) w))
over_typed a None w u k r e = record { result = sub_result u r; is = rw e refl }
over_typed a (Some q) w u k r e = record { result = sub_result a q; is = refl }

sig_typed : (chain : List Made) (m : ℕ) (x : Full) (b : Terms) (q : Option Term) → At chain x b → result_of x m ≡ Some q → TypedSig (sig chain m)
sig_typed [] m x b q h e = absurd h
sig_typed (c ∷ rest) m x b q (inl h) e = record {
  result = sub_result c.args q;
  is = over_some c.args (result_of c.of m) (hidden_if (lift c.up (sig rest m)) (written_in c.hidden m)) q (ap (λ y. result_of y m) (sym h.0) ∙ e);
}
sig_typed (c ∷ rest) m x b q (inr h) e = by (sig_typed rest m x h.0 q h.2 e)
  where
    by : TypedSig (sig rest m) → TypedSig (sig (c ∷ rest) m)
    by k = over_typed c.args (result_of c.of m) (written_in c.hidden m) c.up (sig rest m) k.result k.is

-- a typed result is some class's signature, a hidden one the class's own
found_sig : (chain : List Made) (m : ℕ) (r : Option Term) → found chain m ≡ Typed r → SigAt chain m r
found_sig [] m r e = absurd (cc)
found_sig (c ∷ rest) m r e = by (among c.bodies m) (found rest m) refl e (λ q k. found_sig rest m q k)
  where
    by : (t : Bool) (k : Kind) → k ≡ found rest m → cond t (sig (c ∷ rest) m) (found_up (lift c.up k) (sig (c ∷ rest) m)) ≡ Typed r
        → ((q : Option Term) → found rest m ≡ Typed q → SigAt rest m q) → SigAt (c ∷ rest) m r
    by true k p h again = inl h
    by false Absent p h again = absurd (cc)
    by false (Typed q) p h again = inr (q, cc, again q (sym p))
    by false (Hidden q) p h again = inl h

found_hidden : (chain : List Made) (m : ℕ) (r : Option Term) → found chain m ≡ Hidden r → sig chain m ≡ Hidden r
found_hidden [] m r e = absurd (cc)
found_hidden (c ∷ rest) m r e = by (among c.bodies m) (found rest m) e
  where
    by : (t : Bool) (k : Kind) → cond t (sig (c ∷ rest) m) (found_up (lift c.up k) (sig (c ∷ rest) m)) ≡ Hidden r → sig (c ∷ rest) m ≡ Hidden r
    by true k h = h
    by false Absent h = absurd (cc)
    by false (Typed q) h = absurd (cc)
    by false (Hidden q) h = h

module _ (Sub : Term → Term → Type 0) (same_sub : (t : Term) → Sub t t) (on_sub : (s t u : Term) → Sub s t → Sub t u → Sub s u)
    (put_sub : (a : Terms) (s t : Term) → Sub s t → Sub (sub a s) (sub a t)) where
  fits_self : (s : Option Term) → Fits Sub s s
  fits_self None = tt
  fits_self (Some s) = same_sub s

  fits_on : (s t u : Option Term) → Fits Sub s t → Fits Sub t u → Fits Sub s u
  fits_on None None None h g = tt
  fits_on None None (Some u) h g = absurd g
  fits_on None (Some t) u h g = absurd h
  fits_on (Some s) None u h g = absurd h
  fits_on (Some s) (Some t) None h g = absurd g
  fits_on (Some s) (Some t) (Some u) h g = on_sub s t u h g

  fits_put : (a : Terms) (s t : Option Term) → Fits Sub s t → Fits Sub (sub_result a s) (sub_result a t)
  fits_put a None None h = tt
  fits_put a None (Some t) h = absurd h
  fits_put a (Some s) None h = absurd h
  fits_put a (Some s) (Some t) h = put_sub a s t h

  conf_self : (x : Full) (m : ℕ) (s t : Option Term) → s ≡ t → Conf Sub x m s t
  conf_self x m s t e = record { fits = subst (Fits Sub s) e (fits_self s); strict = λ p. e }

  conf_put : (x : Full) (m : ℕ) (a b : Terms) (s q : Option Term) → Conf Sub x m s (sub_result b q) → Conf Sub x m (sub_result a s) (sub_result (sub_all a b) q)
  conf_put x m a b s q h = record {
    fits = subst (Fits Sub (sub_result a s)) (sub_result_twice a b q) (fits_put a s (sub_result b q) h.fits);
    strict = λ p. ap (sub_result a) (h.strict p) ∙ sub_result_twice a b q;
  }

  pub record Meets (chain : List Made) (m : ℕ) (x : Full) (want : Option Term) : Type 0 where
    pub result : Option Term
    pub is : found chain m ≡ Typed result
    pub conforms : Conf Sub x m result want

  -- for the type of each class of the list
  pub meets : (chain : List Made) (m : ℕ) (x : Full) (b : Terms) (q : Option Term) → Rules Sub chain m → At chain x b → result_of x m ≡ Some q → Meets chain m x (sub_result b q)
  meets [] m x b q u h e = absurd h
  meets (c ∷ rest) m x b q u (inl h) e = by (cases_Bool (among c.bodies m)) (found rest m) refl
    where
      has : result_of c.of m ≡ Some q
      has = ap (λ y. result_of y m) (sym h.0) ∙ e

      typed : sig (c ∷ rest) m ≡ Typed (sub_result c.args q)
      typed = over_some c.args (result_of c.of m) (hidden_if (lift c.up (sig rest m)) (written_in c.hidden m)) q has

      want : sub_result c.args q ≡ sub_result b q
      want = ap (λ a. sub_result a q) (sym h.1)

      by : (among c.bodies m ≡ true) ⊎ (among c.bodies m ≡ false) → (k : Kind) → k ≡ found rest m → Meets (c ∷ rest) m x (sub_result b q)
      by (inl t) k p = record { result = sub_result c.args q; is = rw t typed; conforms = conf_self x m (sub_result c.args q) (sub_result b q) want }
      by (inr t) Absent p = absurd (u.0.defined t q has (sym p))
      by (inr t) (Typed r) p = record {
        result = sub_result c.up r;
        is = rw (t, sym p) refl;
        conforms = subst (λ y. Conf Sub y m (sub_result c.up r) (sub_result b q)) (sym h.0) (subst (Conf Sub c.of m (sub_result c.up r)) want (u.0.inherited t q r has (found_sig rest m r (sym p))));
      }
      by (inr t) (Hidden r) p = record { result = sub_result c.args q; is = rw (t, sym p) typed; conforms = conf_self x m (sub_result c.args q) (sub_result b q) want }
  meets (c ∷ rest) m x b q u (inr h) e = by (cases_Bool (among c.bodies m)) (meets rest m x h.0 q u.1 h.2 e) (sig_typed (c ∷ rest) m x b q (inr h) e)
    where
      want : sub_result (sub_all c.up h.0) q ≡ sub_result b q
      want = ap (λ a. sub_result a q) (sym h.1)

      by : (among c.bodies m ≡ true) ⊎ (among c.bodies m ≡ false) → Meets rest m x (sub_result h.0 q) → TypedSig (sig (c ∷ rest) m) → Meets (c ∷ rest) m x (sub_result b q)
      by (inl t) k g = record {
        result = g.result;
        is = rw t g.is;
        conforms = subst (Conf Sub x m g.result) want (u.0.own t g.result q x h.0 g.is h.2 e);
      }
      by (inr t) k g = record {
        result = sub_result c.up k.result;
        is = rw (t, k.is) refl;
        conforms = subst (Conf Sub x m (sub_result c.up k.result)) want (conf_put x m c.up h.0 k.result q k.conforms);
      }

  later : (c : Made) (rest : List Made) (m : ℕ) (r : Option Term) → RulesAt Sub c rest m → among c.bodies m ≡ false → (k : Kind) → k ≡ found rest m → (o : Option (Option Term)) → o ≡ result_of c.of m
      → ((q : Option Term) → (found rest m ≡ Typed q) ⊎ (found rest m ≡ Hidden q) → out rest m ≡ q)
      → (found_up (lift c.up k) (sig (c ∷ rest) m) ≡ Typed r) ⊎ (found_up (lift c.up k) (sig (c ∷ rest) m) ≡ Hidden r) → sub_result c.up (out rest m) ≡ r
  later c rest m r u t Absent p o n again (inl e) = absurd (cc)
  later c rest m r u t Absent p o n again (inr e) = absurd (cc)
  later c rest m r u t (Typed q) p o n again (inl e) = ap (sub_result c.up) (again q (inl (sym p))) ∙ cc
  later c rest m r u t (Typed q) p o n again (inr e) = absurd (cc)
  later c rest m r u t (Hidden q) p o n again e = ap (sub_result c.up) (again q (inr (sym p))) ∙ by o n e
    where
      known : sig rest m ≡ Hidden q
      known = found_hidden rest m q (sym p)

      by : (o : Option (Option Term)) → o ≡ result_of c.of m → (sig (c ∷ rest) m ≡ Typed r) ⊎ (sig (c ∷ rest) m ≡ Hidden r) → sub_result c.up q ≡ r
      by None n (inl e) = absurd (let f : Hidden (sub_result c.up q) ≡ Typed r = rw (sym n, known) at e in cc)
      by None n (inr e) = let f : Hidden (sub_result c.up q) ≡ Hidden r = rw (sym n, known) at e in cc
      by (Some w) n (inl e) = let f : Typed (sub_result c.args w) ≡ Typed r = rw (sym n) at e in u.unhidden t w q (sym n) known ∙ cc
      by (Some w) n (inr e) = absurd (let f : Typed (sub_result c.args w) ≡ Hidden r = rw (sym n) at e in cc)

  -- and the body does return at that result
  pub returned : (chain : List Made) (m : ℕ) (r : Option Term) → Rules Sub chain m → (found chain m ≡ Typed r) ⊎ (found chain m ≡ Hidden r) → out chain m ≡ r
  returned [] m r u (inl e) = absurd (cc)
  returned [] m r u (inr e) = absurd (cc)
  returned (c ∷ rest) m r u e = by (cases_Bool (among c.bodies m)) (found rest m) refl (result_of c.of m) refl (λ q g. returned rest m q u.1 g)
    where
      first : (k : Kind) → (k ≡ Typed r) ⊎ (k ≡ Hidden r) → result_in_kind k ≡ r
      first k (inl g) = ap result_in_kind g
      first k (inr g) = ap result_in_kind g

      by : (among c.bodies m ≡ true) ⊎ (among c.bodies m ≡ false) → (k : Kind) → k ≡ found rest m → (o : Option (Option Term)) → o ≡ result_of c.of m
          → ((q : Option Term) → (found rest m ≡ Typed q) ⊎ (found rest m ≡ Hidden q) → out rest m ≡ q) → out (c ∷ rest) m ≡ r
      by (inl t) k p o n again = rw t (first (sig (c ∷ rest) m) (rw t at e))
      by (inr t) k p o n again = rw t (later c rest m r u.0 t k p o n again (subst (λ z. (found_up (lift c.up z) (sig (c ∷ rest) m) ≡ Typed r) ⊎ (found_up (lift c.up z) (sig (c ∷ rest) m) ≡ Hidden r)) (sym p) (rw t at e)))

  -- types: what a type has is what the types above it have, and conforms
  mutual
    reach_param : (m : ℕ) (x : Full) (c : Terms) (t : Full) (a : Terms) → Reach x c t a → parametric t m ≡ true → parametric x m ≡ true
    reach_param m (Type' n f ws ss) c t a (inl h) p = ap (λ y. parametric y m) (sym h.0) ∙ p
    reach_param m (Type' n f ws ss) c t a (inr h) p = true_cond (param_found (result_of (Type' n f ws ss) m)) (parametric_in ss m) (reach_param_in m ss c t a h p)

    reach_param_in : (m : ℕ) (ss : Fulls) (c : Terms) (t : Full) (a : Terms) → ReachIn ss c t a → parametric t m ≡ true → parametric_in ss m ≡ true
    reach_param_in m Bare c t a h p = absurd h
    reach_param_in m (Under d s rest) c t a (inl h) p = or_true (parametric s m) (parametric_in rest m) (reach_param m s (sub_all c d) t a h p)
    reach_param_in m (Under d s rest) c t a (inr h) p = true_cond (parametric s m) (parametric_in rest m) (reach_param_in m rest c t a h p)

  mutual
    reach_found : (m : ℕ) (x : Full) (c : Terms) (t : Full) (a : Terms) (q : Option Term) → Reach x c t a → result_of t m ≡ Some q → is_found (result_of x m) ≡ true
    reach_found m (Type' n f ws ss) c t a q (inl h) e = ap is_found (ap (λ y. result_of y m) (sym h.0) ∙ e)
    reach_found m (Type' n f ws ss) c t a q (inr h) e = found_or (written_in ws m) (result_in ss m) (reach_found_in m ss c t a q h e)

    reach_found_in : (m : ℕ) (ss : Fulls) (c : Terms) (t : Full) (a : Terms) (q : Option Term) → ReachIn ss c t a → result_of t m ≡ Some q → is_found (result_in ss m) ≡ true
    reach_found_in m Bare c t a q h e = absurd h
    reach_found_in m (Under d s rest) c t a q (inl h) e = found_first d (result_of s m) (result_in rest m) (reach_found m s (sub_all c d) t a q h e)
    reach_found_in m (Under d s rest) c t a q (inr h) e = found_or (sub_found d (result_of s m)) (result_in rest m) (reach_found_in m rest c t a q h e)

  pub record Has (m : ℕ) (x t : Full) (c a : Terms) (q : Option Term) : Type 0 where
    pub result : Option Term
    pub is : result_of x m ≡ Some result
    pub conforms : Conf Sub t m (sub_result c result) (sub_result a q)

  through : (m : ℕ) (s t : Full) (c d a : Terms) (p q : Option Term) → Reach s (sub_all c d) t a → (k : Has m s t (sub_all c d) a q) → Conf Sub s m p (sub_result d k.result)
      → Conf Sub t m (sub_result c p) (sub_result a q)
  through m s t c d a p q h k g = let l : Conf Sub s m (sub_result c p) (sub_result (sub_all c d) k.result) = conf_put s m c d p k.result g in
      record {
        fits = fits_on (sub_result c p) (sub_result (sub_all c d) k.result) (sub_result a q) l.fits k.conforms.fits;
        strict = λ z. l.strict (reach_param m s (sub_all c d) t a h z) ∙ k.conforms.strict z;
      }

  with_found : (m : ℕ) (x t : Full) (c a : Terms) (q : Option Term) (o : Option (Option Term)) → o ≡ result_of x m → is_found o ≡ true
      → ((p : Option Term) → result_of x m ≡ Some p → Conf Sub t m (sub_result c p) (sub_result a q)) → Has m x t c a q
  with_found m x t c a q None e h g = absurd (cc)
  with_found m x t c a q (Some p) e h g = record { result = p; is = sym e; conforms = g p (sym e) }

  -- what a type has above it conforms
  mutual
    pub reached : (m : ℕ) (x : Full) (c : Terms) (t : Full) (a : Terms) (q : Option Term) → Rule8 Sub m x → Reach x c t a → result_of t m ≡ Some q → Has m x t c a q
    reached m (Type' n f ws ss) c t a q u (inl h) e = record {
      result = q;
      is = ap (λ y. result_of y m) (sym h.0) ∙ e;
      conforms = conf_self t m (sub_result c q) (sub_result a q) (ap (λ b. sub_result b q) (sym h.1));
    }
    reached m (Type' n f ws ss) c t a q u (inr h) e = with_found m (Type' n f ws ss) t c a q (result_of (Type' n f ws ss) m) refl
        (found_or (written_in ws m) (result_in ss m) (reach_found_in m ss c t a q h e))
        (λ p g. reached_in m (result_of (Type' n f ws ss) m) ss c t a p q u h e g)

    pub reached_in : (m : ℕ) (o : Option (Option Term)) (ss : Fulls) (c : Terms) (t : Full) (a : Terms) (p q : Option Term) → Rule8In Sub m o ss → ReachIn ss c t a
        → result_of t m ≡ Some q → o ≡ Some p → Conf Sub t m (sub_result c p) (sub_result a q)
    reached_in m o Bare c t a p q u h e g = absurd h
    reached_in m o (Under d s rest) c t a p q u (inl h) e g = head (reached m s (sub_all c d) t a q u.0 h e)
      where
        head : Has m s t (sub_all c d) a q → Conf Sub t m (sub_result c p) (sub_result a q)
        head k = through m s t c d a p q h k (u.1 p k.result g k.is)
    reached_in m o (Under d s rest) c t a p q u (inr h) e g = reached_in m o rest c t a p q u.2 h e g

  -- the whole: of a type t above the type of one of the classes
  pub record Arrives (chain : List Made) (m : ℕ) (t : Full) (a : Terms) (q : Option Term) : Type 0 where
    pub result : Option Term
    pub is : found chain m ≡ Typed result
    pub returned : out chain m ≡ result
    pub conforms : Conf Sub t m result (sub_result a q)

  pub arrives : (chain : List Made) (m : ℕ) (x t : Full) (b a : Terms) (q : Option Term) → Rules Sub chain m → Rule8 Sub m x → At chain x b → Reach x b t a → result_of t m ≡ Some q
      → Arrives chain m t a q
  arrives chain m x t b a q u v h g e = by (reached m x b t a q v g e)
    where
      by : Has m x t b a q → Arrives chain m t a q
      by k = join (meets chain m x b k.result u h k.is)
        where
          join : Meets chain m x (sub_result b k.result) → Arrives chain m t a q
          join l = record {
            result = l.result;
            is = l.is;
            returned = returned chain m l.result u (inl l.is);
            conforms = record {
              fits = fits_on l.result (sub_result b k.result) (sub_result a q) l.conforms.fits k.conforms.fits;
              strict = λ z. l.conforms.strict (reach_param m x b t a g z) ∙ k.conforms.strict z;
            };
          }

  -- the result over the type's own parameters gives the distance of the result with its arguments
  gap_self : (dist : ℕ → ℕ → ℕ) → ((n : ℕ) → dist n n ≡ 0) → (r : Option Term) → gap dist r r ≡ 0
  gap_self dist z None = refl
  gap_self dist z (Some (Whole k)) = refl
  gap_self dist z (Some (Param k)) = refl
  gap_self dist z (Some (Array t)) = refl
  gap_self dist z (Some (Named n ts)) = z n

  gap_param : (dist : ℕ → ℕ → ℕ) (k : ℕ) (r : Option Term) → gap dist r (Some (Param k)) ≡ 0
  gap_param dist k None = refl
  gap_param dist k (Some (Whole j)) = refl
  gap_param dist k (Some (Param j)) = refl
  gap_param dist k (Some (Array t)) = refl
  gap_param dist k (Some (Named n ts)) = refl

  gap_put : (dist : ℕ → ℕ → ℕ) (r : Option Term) (a : Terms) (q : Term) → param_found (Some (Some q)) ≡ false → gap dist r (Some (sub a q)) ≡ gap dist r (Some q)
  gap_put dist None a q h = refl
  gap_put dist (Some (Whole k)) a q h = refl
  gap_put dist (Some (Param k)) a q h = refl
  gap_put dist (Some (Array t)) a q h = refl
  gap_put dist (Some (Named n ts)) a (Whole k) h = refl
  gap_put dist (Some (Named n ts)) a (Param k) h = absurd (cc)
  gap_put dist (Some (Named n ts)) a (Array t) h = refl
  gap_put dist (Some (Named n ts)) a (Named m us) h = refl

  param_here : (t : Full) (m : ℕ) → param_found (result_of t m) ≡ true → parametric t m ≡ true
  param_here (Type' n f ws ss) m h = or_true (param_found (result_of (Type' n f ws ss) m)) (parametric_in ss m) h

  pub gap_is : (dist : ℕ → ℕ → ℕ) → ((n : ℕ) → dist n n ≡ 0) → (t : Full) (m : ℕ) (r q : Option Term) (a : Terms) → result_of t m ≡ Some q
      → Conf Sub t m r (sub_result a q) → gap dist r (sub_result a q) ≡ gap dist r q
  gap_is dist z t m r None a e c = refl
  gap_is dist z t m r (Some q) a e c = by (cases_Bool (param_found (Some (Some q))))
    where
      param_gap : (q : Term) → param_found (Some (Some q)) ≡ true → gap dist r (Some q) ≡ 0
      param_gap (Whole k) h = absurd (cc)
      param_gap (Param k) h = gap_param dist k r
      param_gap (Array u) h = absurd (cc)
      param_gap (Named n us) h = absurd (cc)

      by : (param_found (Some (Some q)) ≡ true) ⊎ (param_found (Some (Some q)) ≡ false) → gap dist r (Some (sub a q)) ≡ gap dist r (Some q)
      by (inl h) = let s : r ≡ Some (sub a q) = c.strict (param_here t m (ap param_found e ∙ h)) in
          ap (λ y. gap dist y (Some (sub a q))) s ∙ gap_self dist z (Some (sub a q)) ∙ sym (param_gap q h)
      by (inr h) = gap_put dist r a q h
