-- Readings of lists, and steps one after another.
use Rattle.std.proofs.Common.{◌≡◌, ℕ, zero, suc, ◌≤◌, ◌<◌, ◌+◌, Bool, true, false, List, [], ◌∷◌, ◌++◌, length, Option, refl, sym, subst, append_assoc, append-nil, length-append, le_refl, if◌then◌else◌, arith}
use Rattle.th_tree.specs.declared.lexeme.Mark.{Mark}
use Rattle.th_tree.specs.declared.lexeme.Lexeme.{Lexeme}
use Rattle.th_tree.specs.Forms.{lex, Many, none_more, one_more, Listed, last_one, one_before, Steps, no_step, a_step}
use Rattle.th_syntax.specs.Read.{Got, Bad, P, bind, peek, take_one, code, code_of, member, in_set, is_mark, many, listed, steps}
use Rattle.th_syntax.proofs.Good.{Good, good_got, good_bad, good_map, good_bind, good_if, good_take}
use Rattle.th_syntax.proofs.Steady.{Steady, steady_got, steady_bad, steady_weak, steady_none, steady_empty, steady_bind, steady_take, steady_look, steady_test}
use Rattle.th_syntax.proofs.Sets.{disjoint, joined_if, disjoint_out, out_left, out_right, Heads, heads_left, heads_right, follows, begins, begins_not, not_true}
use Rattle.th_syntax.proofs.Marks.{Exact, is_mark_same, tells}
use Rattle.th_syntax.proofs.Law.{Law, steady_then, front_le, behind_le, rest_le}

-- a word that isn't empty has a lexeme
pub one_long : (f : List ℕ) (us : List Lexeme) → Heads f false us → 1 ≤ length us
one_long f [] h = absurd (cc)
one_long f (t ∷ us) h = omega arith

shorter : (x : ℕ) (ts us rest : List Lexeme) → length ts ≤ suc x → ts ≡ us ++ rest → 1 ≤ length us → length rest ≤ x
shorter x ts us rest l e i = let d : length (us ++ rest) ≤ suc x = subst (λ q. length q ≤ suc x) e l in omega (arith, length-append us rest)

-- any number of items and the last
module _ {A B : Type 0} {L : A → List Lexeme → Type 0} {Last : B → List Lexeme → Type 0} {item : ℕ → P A} {last : ℕ → P B} {f1 f2 : List ℕ} {n2 : Bool} {m1 m2 : List ℕ} (more : A → B → B)
    (l : Law L item f1 false m1) (k : Law Last last f2 n2 m2) (apart : disjoint f1 f2 ≡ true) (on : disjoint m1 (f1 ++ f2) ≡ true) where
  abbrev ReadMany : ℕ → ℕ → P B
  ReadMany = many (in_set f1) item more last

  good_many : (x n : ℕ) (ts : List Lexeme) → Good (Many L more Last) ts (ReadMany x n ts)
  good_many zero n ts = good_map Last (Many L more Last) ts (last n ts) (λ b xs h. none_more b xs h) (k.good n ts)
  good_many (suc x) n ts =
      good_if (Many L more Last) ts (in_set f1 (peek ts)) _ _
      (λ e. good_bind L (Many L more Last) ts (item n ts) _ (l.good n ts)
      (λ a us rest h. good_bind (Many L more Last) (λ b ys. Many L more Last b (us ++ ys)) rest (ReadMany x n rest) _ (good_many x n rest)
      (λ b vs end i. good_got (λ c ys. Many L more Last c (us ++ (vs ++ ys))) end (more a b) (subst (λ y. Many L more Last (more a b) (us ++ y)) (sym (append-nil vs)) (one_more a b us vs h i)))))
      (λ e. good_map Last (Many L more Last) ts (last n ts) (λ b xs h. none_more b xs h) (k.good n ts))

  steady_many : (x y n m : ℕ) (ts : List Lexeme) → length ts ≤ x → x ≤ n → y ≤ m → Steady (ReadMany y m) y ts (ReadMany x n ts)
  steady_many x zero n m ts z zn zm = steady_none _ _ ts _ (good_many x n ts)
  steady_many zero (suc y) n m ts z zn zm = steady_empty _ _ (suc y) ts _ z (good_many zero n ts)
  steady_many (suc x) (suc y) n m ts z zn zm =
      steady_look (λ o q. if in_set f1 o then bind (item m q) (λ a ts1. bind (ReadMany y m ts1) (λ b ts2. Got (more a b) ts2)) else last m q) (suc y) ts _
      (steady_test (in_set f1 (peek ts)) _ (last m) (suc y) ts _ _
      (λ e. steady_then L (suc y) ts (item m) (item n ts) _ _ (l.good n ts) (steady_weak _ m (suc y) ts _ zm (l.steady n m ts (omega arith)))
      (λ a us rest d h. let i = one_long f1 us (l.heads a us h) in let j = shorter x ts us rest z d i in
      (y, omega arith, steady_bind x y rest _ _ _ _ j (steady_many x y n m rest j (omega arith) (omega arith)) (λ b end w. steady_got y end (more a b)))))
      (λ e. steady_weak _ m (suc y) ts _ zm (k.steady n m ts (omega arith))))

  abbrev more_many : List ℕ
  more_many = m2 ++ joined_if n2 [] (m1 ++ f1)

  heads_many : (b : B) (xs : List Lexeme) → Many L more Last b xs → Heads (f1 ++ f2) n2 xs
  heads_many b xs (none_more c us h) = heads_right f1 f2 n2 us (k.heads c us h)
  heads_many b xs (one_more a c us vs h i) = heads_more us vs (l.heads a us h) where
    heads_more : (us vs : List Lexeme) → Heads f1 false us → Heads (f1 ++ f2) n2 (us ++ vs)
    heads_more [] vs h = absurd (cc)
    heads_more (t ∷ ts) vs h = heads_left f1 f2 n2 (t ∷ ts) h

  empty_out : (c : ℕ) → n2 ≡ true → member c more_many ≡ false → (member c m1 ≡ false) × (member c f1 ≡ false)
  empty_out c e o = go n2 e (out_right c m2 (joined_if n2 [] (m1 ++ f1)) o) where
    go : (b : Bool) → b ≡ true → member c (joined_if b [] (m1 ++ f1)) ≡ false → (member c m1 ≡ false) × (member c f1 ≡ false)
    go true e o = (out_left c m1 f1 o, out_right c m1 f1 o)
    go false e o = absurd (cc)

  last_comes : (x n : ℕ) (b : B) (us rest : List Lexeme) → Last b us → length us ≤ n → in_set more_many (peek rest) ≡ false → ReadMany x n (us ++ rest) ≡ Got b rest
  last_comes zero n b us rest h z o = k.comes n b us rest h z (out_left (code_of (peek rest)) m2 (joined_if n2 [] (m1 ++ f1)) o)
  last_comes (suc x) n b us rest h z o =
      rw (begins_not f1 f2 n2 us rest apart (k.heads b us h) (λ e. (empty_out (code_of (peek rest)) e o).1))
      (k.comes n b us rest h z (out_left (code_of (peek rest)) m2 (joined_if n2 [] (m1 ++ f1)) o))

  comes_many : (x n : ℕ) (b : B) (xs rest : List Lexeme) → Many L more Last b xs → length xs ≤ x → length xs ≤ n → in_set more_many (peek rest) ≡ false → ReadMany x n (xs ++ rest) ≡ Got b rest
  comes_many x n b xs rest (none_more c us h) y z o = last_comes x n c us rest h z o
  comes_many zero n b xs rest (one_more a c us vs h i) y z o = absurd (omega (arith, length-append us vs, one_long f1 us (l.heads a us h)))
  comes_many (suc x) n b xs rest (one_more a c us vs h i) y z o =
      let long = one_long f1 us (l.heads a us h) in
      let first : item n (us ++ (vs ++ rest)) ≡ Got a (vs ++ rest) = l.comes n a us (vs ++ rest) h (front_le us vs n z)
      (follows m1 (f1 ++ f2) [] n2 vs rest on (heads_many c vs i) (λ e. (empty_out (code_of (peek rest)) e o).0)) in
      let next : ReadMany x n (vs ++ rest) ≡ Got c rest = comes_many x n c vs rest i (omega (arith, length-append us vs)) (behind_le us vs n z) o in
      rw (append_assoc us vs rest, begins f1 us (vs ++ rest) (l.heads a us h), first, next) refl

  pub law_many : Law (Many L more Last) (λ n. many (in_set f1) item more last n n) (f1 ++ f2) n2 (m2 ++ joined_if n2 [] (m1 ++ f1))
  law_many = record {
    good = λ n ts. good_many n n ts;
    steady = λ n m ts z. steady_many n m n m ts z (le_refl n) (le_refl m);
    comes = λ n b xs rest h z o. comes_many n n b xs rest h z z o;
    heads = heads_many;
  }

-- items with a mark between them
module _ {A B : Type 0} {L : A → List Lexeme → Type 0} {item : ℕ → P A} {f : List ℕ} {m1 : List ℕ} (c : Mark) (more : A → B → B) (none : B)
    (l : Law L item f false m1) (exact : Exact c) (on : disjoint m1 (code c ∷ []) ≡ true) where
  abbrev ReadList : ℕ → ℕ → P B
  ReadList = listed c item more none

  abbrev AList : B → List Lexeme → Type 0
  AList = Listed c L more none

  one_item : (a : A) (us end : List Lexeme) → L a us → Good (λ b ys. AList b (us ++ ys)) end (Got (more a none) end)
  one_item a us end h = good_got (λ b ys. AList b (us ++ ys)) end (more a none) (subst (λ y. AList (more a none) y) (sym (append-nil us)) (last_one a us h))

  good_listed : (x n : ℕ) (ts : List Lexeme) → Good AList ts (ReadList x n ts)
  good_listed zero n ts = good_bind L AList ts (item n ts) _ (l.good n ts) (λ a us rest h. one_item a us rest h)
  good_listed (suc x) n ts =
      good_bind L AList ts (item n ts) _ (l.good n ts)
      (λ a us rest h. good_if (λ b ys. AList b (us ++ ys)) rest (is_mark c (peek rest)) _ _
      (λ e. good_take (λ b ys. AList b (us ++ ys)) c rest _ (tells c exact rest e)
      (λ p more_rest. good_bind AList (λ b ys. AList b (us ++ lex c p ∷ ys)) more_rest (ReadList x n more_rest) _ (good_listed x n more_rest)
      (λ b vs end i. good_got (λ d ys. AList d (us ++ lex c p ∷ (vs ++ ys))) end (more a b) (subst (λ y. AList (more a b) (us ++ lex c p ∷ y)) (sym (append-nil vs)) (one_before a b p us vs h i)))))
      (λ e. one_item a us rest h))

  steady_listed : (x y n m : ℕ) (ts : List Lexeme) → length ts ≤ x → x ≤ n → y ≤ m → Steady (ReadList y m) y ts (ReadList x n ts)
  steady_listed x zero n m ts z zn zm = steady_none _ _ ts _ (good_listed x n ts)
  steady_listed zero (suc y) n m ts z zn zm = steady_empty _ _ (suc y) ts _ z (good_listed zero n ts)
  steady_listed (suc x) (suc y) n m ts z zn zm =
      steady_bind (suc x) (suc y) ts _ _ _ _ z (steady_weak _ m (suc y) ts _ zm (l.steady n m ts (omega arith)))
      (λ a rest i. steady_look (λ o q. if is_mark c o then bind (take_one q) (λ t ts2. bind (ReadList y m ts2) (λ b ts3. Got (more a b) ts3)) else Got (more a none) q) (suc y) rest _
      (steady_test (is_mark c (peek rest)) _ (Got (more a none)) (suc y) rest _ _
      (λ e. steady_take x y rest _ _ i (λ t more_rest j. steady_bind x y more_rest _ _ _ _ j (steady_listed x y n m more_rest j (omega arith) (omega arith)) (λ b end w. steady_got y end (more a b))))
      (λ e. steady_got (suc y) rest (more a none))))

  not_more : (rest : List Lexeme) → in_set (code c ∷ m1) (peek rest) ≡ false → (is_mark c (peek rest) ≡ false) × (in_set m1 (peek rest) ≡ false)
  not_more rest o = (out_left (code_of (peek rest)) (code c ∷ []) m1 o, out_right (code_of (peek rest)) (code c ∷ []) m1 o)

  sep_out : (p : ℕ) (ys : List Lexeme) → in_set m1 (peek (lex c p ∷ ys)) ≡ false
  sep_out p ys = not_true (member (code c) m1) (λ e. let d : member (code c) (code c ∷ []) ≡ false = disjoint_out (code c) m1 (code c ∷ []) on e in let i : member (code c) (code c ∷ []) ≡ true = is_mark_same c in absurd (cc))

  comes_listed : (x n : ℕ) (b : B) (xs rest : List Lexeme) → AList b xs → length xs ≤ x → length xs ≤ n → in_set (code c ∷ m1) (peek rest) ≡ false → ReadList x n (xs ++ rest) ≡ Got b rest
  comes_listed zero n b xs rest (last_one a us h) y z o = rw (l.comes n a us rest h z ((not_more rest o).1)) refl
  comes_listed (suc x) n b xs rest (last_one a us h) y z o = rw (l.comes n a us rest h z ((not_more rest o).1), (not_more rest o).0) refl
  comes_listed zero n b xs rest (one_before a d p us vs h i) y z o = absurd (omega (arith, length-append us (lex c p ∷ vs)))
  comes_listed (suc x) n b xs rest (one_before a d p us vs h i) y z o =
      let first : item n (us ++ lex c p ∷ (vs ++ rest)) ≡ Got a (lex c p ∷ (vs ++ rest)) = l.comes n a us (lex c p ∷ (vs ++ rest)) h (front_le us (lex c p ∷ vs) n z) (sep_out p (vs ++ rest)) in
      let next : ReadList x n (vs ++ rest) ≡ Got d rest = comes_listed x n d vs rest i (omega (arith, length-append us (lex c p ∷ vs))) (omega (arith, length-append us (lex c p ∷ vs))) o in
      rw (append_assoc us (lex c p ∷ vs) rest, first, is_mark_same c, next) refl

  heads_listed : (b : B) (xs : List Lexeme) → AList b xs → Heads f false xs
  heads_listed b xs (last_one a us h) = l.heads a us h
  heads_listed b xs (one_before a d p us vs h i) = heads_front us (l.heads a us h) where
    heads_front : (us : List Lexeme) → Heads f false us → Heads f false (us ++ lex c p ∷ vs)
    heads_front [] h = absurd (cc)
    heads_front (t ∷ ts) h = h

  pub law_listed : Law (Listed c L more none) (λ n. listed c item more none n n) f false (code c ∷ m1)
  law_listed = record {
    good = λ n ts. good_listed n n ts;
    steady = λ n m ts z. steady_listed n m n m ts z (le_refl n) (le_refl m);
    comes = λ n b xs rest h z o. comes_listed n n b xs rest h z z o;
    heads = heads_listed;
  }

-- steps: each takes an open value to a greater one, and no step leaves a closed one
module _ {A : Type 0} {Step : A → A → List Lexeme → Type 0} {step : A → ℕ → P A} {f m1 : List ℕ} (test : Option Mark → Bool) (goes : A → Bool) (size : A → ℕ) (Is : A → Type 0) (r : ℕ)
    (is : (o : Option Mark) → test o ≡ in_set f o) (l : (a : A) → Is a → goes a ≡ true → Law (Step a) (step a) f false m1)
    (closed : (a b : A) (xs : List Lexeme) → goes a ≡ false → Step a b xs → ⊥) (grows : (a b : A) (xs : List Lexeme) → Is a → Step a b xs → Is b × (size a < size b))
    (low : (a : A) → goes a ≡ true → size a ≤ r) (on : disjoint m1 f ≡ true) where
  good_steps : (k n : ℕ) (a : A) (ts : List Lexeme) → Is a → Good (Steps Step a) ts (steps test goes step k a n ts)
  good_steps zero n a ts j = good_got (Steps Step a) ts a (no_step a)
  good_steps (suc k) n a ts j =
      good_if (Steps Step a) ts (test (peek ts)) _ _
      (λ e. good_if (Steps Step a) ts (goes a) _ _
      (λ g. good_bind (Step a) (Steps Step a) ts (step a n ts) _ ((l a j g).good n ts)
      (λ b us rest h. good_map (Steps Step b) (λ c ys. Steps Step a c (us ++ ys)) rest _ (λ c vs i. a_step a b c us vs h i) (good_steps k n b rest (grows a b us j h).0)))
      (λ g. good_bad (Steps Step a) ts [] a (no_step a)))
      (λ e. good_got (Steps Step a) ts a (no_step a))

  steady_steps : (k n m : ℕ) (a : A) (ts : List Lexeme) → Is a → length ts ≤ n → Steady (steps test goes step k a m) m ts (steps test goes step k a n ts)
  steady_steps zero n m a ts j z = steady_got m ts a
  steady_steps (suc k) n m a ts j z =
      steady_look (λ o q. if test o then (if goes a then bind (step a m q) (λ b ts1. steps test goes step k b m ts1) else Bad q) else Got a q) m ts _
      (steady_test (test (peek ts)) (λ q. if goes a then bind (step a m q) (λ b ts1. steps test goes step k b m ts1) else Bad q) (Got a) m ts _ _
      (λ e. steady_test (goes a) _ Bad m ts _ _
      (λ g. steady_then (Step a) m ts (step a m) (step a n ts) _ _ ((l a j g).good n ts) ((l a j g).steady n m ts z)
      (λ b us rest d h. (m, omega arith, steady_steps k n m b rest (grows a b us j h).0 (rest_le n ts us rest z d))))
      (λ g. steady_bad m ts))
      (λ e. steady_got m ts a))

  heads_steps : (a b : A) (xs : List Lexeme) → Is a → Steps Step a b xs → Heads f true xs
  heads_steps a b xs j (no_step c) = refl
  heads_steps a b xs j (a_step a1 c d us vs h i) = go (goes a) refl where
    front : (us vs : List Lexeme) → Heads f false us → Heads f true (us ++ vs)
    front [] vs h = absurd (cc)
    front (t ∷ ts) vs h = h

    go : (g : Bool) → goes a ≡ g → Heads f true (us ++ vs)
    go true e = front us vs ((l a j e).heads c us h)
    go false e = absurd (closed a c us e h)

  decide : (g : Bool) (P : Bool → Type 0) → (g ≡ true → P true) → (g ≡ false → P false) → P g
  decide true P x y = x refl
  decide false P x y = y refl

  comes_steps : (k n : ℕ) (a b : A) (xs rest : List Lexeme) → Is a → suc r ≤ size a + k → Steps Step a b xs → length xs ≤ n → in_set (f ++ m1) (peek rest) ≡ false → steps test goes step k a n (xs ++ rest) ≡ Got b rest
  comes_steps zero n a b xs rest j w (no_step c) z o = refl
  comes_steps (suc k) n a b xs rest j w (no_step c) z o = rw (is (peek rest), out_left (code_of (peek rest)) f m1 o) refl
  comes_steps zero n a b xs rest j w (a_step a1 c d us vs h i) z o = go (goes a) refl where
    go : (g : Bool) → goes a ≡ g → steps test goes step zero a n ((us ++ vs) ++ rest) ≡ Got d rest
    go true e = absurd (omega (arith, low a e))
    go false e = absurd (closed a c us e h)
  comes_steps (suc k) n a b xs rest j w (a_step a1 c d us vs h i) z o =
      let grown = grows a c us j h in
      let next : steps test goes step k c n (vs ++ rest) ≡ Got d rest = comes_steps k n c d vs rest grown.0 (omega (arith, grown.1)) i (behind_le us vs n z) o in
      let tail : Heads f true vs = heads_steps c d vs grown.0 i in
      decide (goes a) (λ g. (if test (peek ((us ++ vs) ++ rest)) then (if g then bind (step a n ((us ++ vs) ++ rest)) (λ b ts1. steps test goes step k b n ts1) else Bad ((us ++ vs) ++ rest)) else Got a ((us ++ vs) ++ rest)) ≡ Got d rest)
      (λ e. let la = l a j e in
      let first : step a n (us ++ (vs ++ rest)) ≡ Got c (vs ++ rest) = la.comes n c us (vs ++ rest) h (front_le us vs n z) (follows m1 f [] true vs rest on tail (λ q. out_right (code_of (peek rest)) f m1 o)) in
      rw (append_assoc us vs rest, is (peek (us ++ (vs ++ rest))), begins f us (vs ++ rest) (la.heads c us h), first) next)
      (λ e. absurd (closed a c us e h))

  pub law_steps : (k : ℕ) (a : A) → Is a → suc r ≤ size a + k → Law (Steps Step a) (steps test goes step k a) f true (f ++ m1)
  law_steps k a j w = record {
    good = λ n ts. good_steps k n a ts j;
    steady = λ n m ts z. steady_steps k n m a ts j z;
    comes = λ n b xs rest h z o. comes_steps k n a b xs rest j w h z o;
    heads = λ b xs h. heads_steps a b xs j h;
  }
