-- What a reading of a language owes, and that each way to put readings together keeps it.
use Rattle.std.proofs.Common.{◌≡◌, ℕ, ◌≤◌, ◌+◌, Bool, true, false, List, [], ◌∷◌, ◌++◌, length, Option, Some, refl, sym, ◌∙◌, subst, ap, append_assoc, length-append, if◌then◌else◌, arith}
use Rattle.std.proofs.lemmas.List.{append_cancel_right}
use Rattle.th_tree.specs.declared.lexeme.Mark.{Mark}
use Rattle.th_tree.specs.declared.lexeme.Lexeme.{Lexeme}
use Rattle.th_tree.specs.Forms.{lex, Done, done, The, the, Valued, valued as is_valued, OneOf, one_of, Then, in_turn, Where, where_holds}
use Rattle.th_syntax.specs.Read.{Res, Got, Bad, P, bind, peek, take_one, code, code_of, member, in_set, is_mark, mark, valued, lookup, one_of_table}
use Rattle.th_syntax.proofs.Good.{Good, goods, bads, good_got, good_bad, good_map, good_bind, good_if, good_some, Headed, good_take}
use Rattle.th_syntax.proofs.Steady.{Steady, gots, stops, steady_got, steady_bad, Again, again_on, steady_one, steady_look, steady_test, steady_some}
use Rattle.th_syntax.proofs.Sets.{disjoint, subset, joined_if, subset_out, out_left, out_right, Heads, both, heads_weak, heads_then, follows}
use Rattle.th_syntax.proofs.Marks.{Exact, is_mark_same, tells}

-- `run` reads the words of L, whatever bound n on lists it is given that is large enough. A word begins with one of the
-- marks `first`, or is empty, which only happens where `null` holds; and the marks `more` may go on with a word.
pub record Law {A : Type 0} (L : A → List Lexeme → Type 0) (run : ℕ → P A) (first : List ℕ) (null : Bool) (more : List ℕ) : Type 0 where
  pub good : (n : ℕ) (ts : List Lexeme) → Good L ts (run n ts)
  pub steady : (n m : ℕ) (ts : List Lexeme) → length ts ≤ n → Steady (run m) m ts (run n ts)
  pub comes : (n : ℕ) (a : A) (xs rest : List Lexeme) → L a xs → length xs ≤ n → in_set more (peek rest) ≡ false → run n (xs ++ rest) ≡ Got a rest
  pub heads : (a : A) (xs : List Lexeme) → L a xs → Heads first null xs

-- a word
pub a_word : {A : Type 0} (L : A → List Lexeme → Type 0) (ts : List Lexeme) (r : Res A) → Good L ts r → (a : A) × (xs : List Lexeme) × L a xs
a_word L ts r (goods a xs rest e h) = (a, xs, h)
a_word L ts r (bads a xs zs rest e h) = (a, xs ++ zs, h)

-- one reading after another, where the second is steady up to a bound that the lexemes of the first make up for
then_on : {A B : Type 0} (g : P A) (k : A → P B) (m m2 : ℕ) (ts xs rest : List Lexeme) (a : A) (r : Res B) → ts ≡ xs ++ rest → Again g m a xs rest → m ≤ length xs + m2
    → Steady (k a) m2 rest r → Steady (λ l. bind (g l) k) m ts r
then_on g k m m2 ts xs rest a r e h z (gots b ys more d i) =
    gots b (xs ++ ys) more (subst (λ l. ts ≡ l) (sym (append_assoc xs ys more)) (subst (λ l. ts ≡ xs ++ l) d e))
    (λ t p zs c l.
    let l1 : length (xs ++ (ys ++ t ∷ zs)) ≤ m = subst (λ q. length q ≤ m) (append_assoc xs ys (t ∷ zs)) l in
    let l2 : length (ys ++ t ∷ zs) ≤ m2 = omega (arith, length-append xs (ys ++ t ∷ zs)) in
    subst (λ q. bind (g q) k ≡ Got b (t ∷ zs)) (sym (append_assoc xs ys (t ∷ zs)))
    (subst (λ q. bind q k ≡ Got b (t ∷ zs)) (sym (again_on g m a xs ys rest more t p zs h d c l1)) (i t p zs c l2)))
then_on g k m m2 ts xs rest a r e h z (stops ys more d i) =
    stops (xs ++ ys) more (subst (λ l. ts ≡ l) (sym (append_assoc xs ys more)) (subst (λ l. ts ≡ xs ++ l) d e))
    (λ t p zs c l.
    let l1 : length (xs ++ (ys ++ t ∷ zs)) ≤ m = subst (λ q. length q ≤ m) (append_assoc xs ys (t ∷ zs)) l in
    let l2 : length (ys ++ t ∷ zs) ≤ m2 = omega (arith, length-append xs (ys ++ t ∷ zs)) in
    subst (λ q. bind (g q) k ≡ Bad (t ∷ zs)) (sym (append_assoc xs ys (t ∷ zs)))
    (subst (λ q. bind q k ≡ Bad (t ∷ zs)) (sym (again_on g m a xs ys rest more t p zs h d c l1)) (i t p zs c l2)))

-- what the second owes where the first read a from xs
abbrev pub Second : {A B : Type 0} → (A → List Lexeme → Type 0) → (A → P B) → (A → P B) → ℕ → List Lexeme → Type 0
Second {A = A} L k f m ts = (a : A) (xs rest : List Lexeme) → ts ≡ xs ++ rest → L a xs → (m2 : ℕ) × (m ≤ length xs + m2) × Steady (k a) m2 rest (f a rest)

pub steady_then : {A B : Type 0} (L : A → List Lexeme → Type 0) (m : ℕ) (ts : List Lexeme) (g : P A) (r : Res A) (k f : A → P B) → Good L ts r → Steady g m ts r → Second L k f m ts
    → Steady (λ l. bind (g l) k) m ts (bind r f)
steady_then L m ts g (Got a rest) k f (goods a1 ys rest1 d w) (gots a2 xs rest2 e h) i =
    let same : xs ≡ ys = append_cancel_right xs ys rest (sym e ∙ d) in
    let s = i a xs rest e (subst (L a) (sym same) w) in
    then_on g k m s.0 ts xs rest a (f a rest) e h s.1 s.2
steady_then L m ts g (Bad rest) k f d (stops xs rest2 e h) i = stops xs rest e (λ t p zs d o. ap (λ q. bind q k) (h t p zs d o))

pub law_weak : {A : Type 0} {L : A → List Lexeme → Type 0} {run : ℕ → P A} {f g : List ℕ} {b : Bool} {m w : List ℕ} → Law L run f b m → subset f g ≡ true → subset m w ≡ true → Law L run g b w
law_weak {f = f} {g = g} {b = b} {m = m} {w = w} l s t = record {
  good = l.good;
  steady = l.steady;
  comes = λ n a xs rest h z o. l.comes n a xs rest h z (subset_out (code_of (peek rest)) m w t o);
  heads = λ a xs h. heads_weak f g b xs s (l.heads a xs h);
}

pub law_done : {A : Type 0} (a : A) → Law (Done a) (λ n. Got a) [] true []
law_done {A = A} a = record {
  good = λ n ts. good_got (Done a) ts a done;
  steady = λ n m ts z. steady_got m ts a;
  comes = λ n b xs rest h z o. comes_done n b xs rest h;
  heads = λ b xs h. heads_done b xs h;
} where
  comes_done : (n : ℕ) (b : A) (xs rest : List Lexeme) → Done a b xs → Got a (xs ++ rest) ≡ Got b rest
  comes_done n b xs rest done = refl

  heads_done : (b : A) (xs : List Lexeme) → Done a b xs → Heads [] true xs
  heads_done b xs done = refl

pub law_where : {A : Type 0} {L : A → List Lexeme → Type 0} {run : ℕ → P A} {f : List ℕ} {b : Bool} {m : List ℕ} (C : Type 0) → C → Law L run f b m → Law (Where C L) run f b m
law_where {A = A} {L = L} {run = run} {f = f} {b = b} {m = m} C c l = record {
  good = λ n ts. good_map L (Where C L) ts (run n ts) (λ a xs h. where_holds a xs c h) (l.good n ts);
  steady = l.steady;
  comes = λ n a xs rest h z o. l.comes n a xs rest (is a xs h) z o;
  heads = λ a xs h. l.heads a xs (is a xs h);
} where
  is : (a : A) (xs : List Lexeme) → Where C L a xs → L a xs
  is a xs (where_holds a1 us d h) = h

take_front : {A : Type 0} (f : Lexeme → A) (c : Mark) (p : ℕ) (rest : List Lexeme) → bind (take_one (lex c p ∷ rest)) (λ t ts1. Got (f t) ts1) ≡ Got (f (lex c p)) rest
take_front f c p rest = refl

pub law_the : (c : Mark) → Exact c → Law (The c) (λ n. mark c) (code c ∷ []) false []
law_the c i = record {
  good = λ n ts. good_if (The c) ts (is_mark c (peek ts)) _ _
      (λ e. good_take (The c) c ts _ (tells c i ts e) (λ p rest. good_got (λ b ys. The c b (lex c p ∷ ys)) rest p (the p)))
      (λ e. good_bad (The c) ts (lex c 0 ∷ []) 0 (the 0));
  steady = λ n m ts z. steady_look (λ o l. if is_mark c o then bind (take_one l) (λ t ts1. Got t.at ts1) else Bad l) m ts _
      (steady_test (is_mark c (peek ts)) _ _ m ts _ _ (λ e. steady_one n m ts _ _ z (λ a rest k. steady_got m rest a.at)) (λ e. steady_bad m ts));
  comes = λ n a xs rest h z o. comes_the a xs rest h;
  heads = λ a xs h. heads_the a xs h;
} where
  comes_the : (a : ℕ) (xs rest : List Lexeme) → The c a xs → mark c (xs ++ rest) ≡ Got a rest
  comes_the a xs rest (the p) = rw (is_mark_same c) refl

  heads_the : (a : ℕ) (xs : List Lexeme) → The c a xs → Heads (code c ∷ []) false xs
  heads_the a xs (the p) = is_mark_same c

pub law_valued : {A : Type 0} (made : ℕ → Mark) (get : Option Mark → Option ℕ) (make : ℕ → ℕ → A) (f : ℕ) → ((n : ℕ) → get (Some (made n)) ≡ Some n) → ((n : ℕ) (ts : List Lexeme) → get (peek ts) ≡ Some n → Headed (made n) ts)
    → ((n : ℕ) → member (code (made n)) (f ∷ []) ≡ true) → Law (Valued made make) (λ n. valued get make) (f ∷ []) false []
law_valued {A = A} made get make f gets heads codes = record {
  good = λ n ts. good_some (Valued made make) ts (get (peek ts)) _ _
      (λ i e. good_take (Valued made make) (made i) ts _ (heads i ts e) (λ p rest. good_got (λ b ys. Valued made make b (lex (made i) p ∷ ys)) rest (make i p) (is_valued i p)))
      (λ e. good_bad (Valued made make) ts (lex (made 0) 0 ∷ []) (make 0 0) (is_valued 0 0));
  steady = λ n m ts z. steady_some get (λ i l. bind (take_one l) (λ t ts1. Got (make i t.at) ts1)) Bad m ts _ _
      (λ i. steady_one n m ts _ _ z (λ a rest k. steady_got m rest (make i a.at))) (steady_bad m ts);
  comes = λ n a xs rest h z o. comes_valued a xs rest h;
  heads = λ a xs h. heads_valued a xs h;
} where
  comes_valued : (a : A) (xs rest : List Lexeme) → Valued made make a xs → valued get make (xs ++ rest) ≡ Got a rest
  comes_valued a xs rest (is_valued n p) = rw (gets n) refl

  heads_valued : (a : A) (xs : List Lexeme) → Valued made make a xs → Heads (f ∷ []) false xs
  heads_valued a xs (is_valued n p) = codes n

pub law_one_of : {A : Type 0} (table : Mark → Option A) (f : List ℕ) (m0 : Mark) (a0 : A) → table m0 ≡ Some a0 → ((m : Mark) (a : A) → table m ≡ Some a → member (code m) f ≡ true)
    → Law (OneOf table) (λ n. one_of_table table) f false []
law_one_of {A = A} table f m0 a0 e0 codes = record {
  good = λ n ts. good_table ts;
  steady = λ n m ts z. steady_some (lookup table) (λ a l. bind (take_one l) (λ t ts1. Got a ts1)) Bad m ts _ _
      (λ a. steady_one n m ts _ _ z (λ t rest k. steady_got m rest a)) (steady_bad m ts);
  comes = λ n a xs rest h z o. comes_table a xs rest h;
  heads = λ a xs h. heads_table a xs h;
} where
  headed : (ts : List Lexeme) (a : A) → lookup table (peek ts) ≡ Some a → (m : Mark) × (table m ≡ Some a) × Headed m ts
  headed [] a e = absurd (cc)
  headed (t ∷ ts) a e = (t.mark, e, record { place = t.at; rest = ts; is = refl })

  good_table : (ts : List Lexeme) → Good (OneOf table) ts (one_of_table table ts)
  good_table ts = good_some (OneOf table) ts (lookup table (peek ts)) _ _
      (λ a e. let h = headed ts a e in good_take (OneOf table) h.0 ts _ h.2 (λ p rest. good_got (λ b ys. OneOf table b (lex h.0 p ∷ ys)) rest a (one_of h.0 a p h.1)))
      (λ e. good_bad (OneOf table) ts (lex m0 0 ∷ []) a0 (one_of m0 a0 0 e0))

  comes_table : (a : A) (xs rest : List Lexeme) → OneOf table a xs → one_of_table table (xs ++ rest) ≡ Got a rest
  comes_table a xs rest (one_of m b p e) = rw e refl

  heads_table : (a : A) (xs : List Lexeme) → OneOf table a xs → Heads f false xs
  heads_table a xs (one_of m b p e) = codes m a e

-- the marks that may go on with one word after another
abbrev pub more_then : Bool → List ℕ → List ℕ → List ℕ
more_then b m1 m2 = joined_if b m2 m1

out_second : (b : Bool) (c : ℕ) (m1 m2 : List ℕ) → member c (joined_if b m2 m1) ≡ false → member c m2 ≡ false
out_second true c m1 m2 o = out_left c m2 m1 o
out_second false c m1 m2 o = o

out_first : (b : Bool) (c : ℕ) (m1 m2 : List ℕ) → member c (joined_if b m2 m1) ≡ false → b ≡ true → member c m1 ≡ false
out_first true c m1 m2 o e = out_right c m2 m1 o
out_first false c m1 m2 o e = absurd (cc)

pub front_le : (xs ys : List Lexeme) (n : ℕ) → length (xs ++ ys) ≤ n → length xs ≤ n
front_le xs ys n l = omega (arith, length-append xs ys)

pub behind_le : (xs ys : List Lexeme) (n : ℕ) → length (xs ++ ys) ≤ n → length ys ≤ n
behind_le xs ys n l = omega (arith, length-append xs ys)

pub rest_le : (n : ℕ) (ts xs rest : List Lexeme) → length ts ≤ n → ts ≡ xs ++ rest → length rest ≤ n
rest_le n ts xs rest l e = let d : length (xs ++ rest) ≤ n = subst (λ q. length q ≤ n) e l in omega (arith, length-append xs rest)

pub bind_got : {A B : Type 0} (r : Res A) (a : A) (ts : List Lexeme) (k : A → P B) (s : Res B) → r ≡ Got a ts → k a ts ≡ s → bind r k ≡ s
bind_got r a ts k s e d = ap (λ q. bind q k) e ∙ d

pub law_then : {A B : Type 0} {L : A → List Lexeme → Type 0} {K : A → B → List Lexeme → Type 0} {p : ℕ → P A} {q : A → ℕ → P B} {f1 f2 : List ℕ} {n1 n2 : Bool} {m1 m2 : List ℕ}
    → Law L p f1 n1 m1 → ((a : A) (xs : List Lexeme) → L a xs → Law (K a) (q a) f2 n2 m2) → disjoint m1 f2 ≡ true
    → Law (Then L K) (λ n ts. bind (p n ts) (λ a ts1. q a n ts1)) (joined_if n1 f1 f2) (both n1 n2) (joined_if n2 m2 m1)
law_then {A = A} {B = B} {L = L} {K = K} {p = p} {q = q} {f1 = f1} {f2 = f2} {n1 = n1} {n2 = n2} {m1 = m1} {m2 = m2} l k d = record {
  good = λ n ts. good_bind L (Then L K) ts (p n ts) (λ a ts1. q a n ts1) (l.good n ts)
      (λ a xs rest h. good_map (K a) (λ b ys. Then L K b (xs ++ ys)) rest (q a n rest) (λ b ys i. in_turn a b xs ys h i) ((k a xs h).good n rest));
  steady = λ n m ts z. steady_then L m ts (p m) (p n ts) (λ a ts1. q a m ts1) (λ a ts1. q a n ts1) (l.good n ts) (l.steady n m ts z)
      (λ a xs rest e h. (m, omega arith, (k a xs h).steady n m rest (rest_le n ts xs rest z e)));
  comes = λ n b xs rest h z o. comes_then n b xs rest h z o;
  heads = λ b xs h. heads_both b xs h;
} where
  comes_then : (n : ℕ) (b : B) (xs rest : List Lexeme) → Then L K b xs → length xs ≤ n → in_set (joined_if n2 m2 m1) (peek rest) ≡ false → bind (p n (xs ++ rest)) (λ a ts1. q a n ts1) ≡ Got b rest
  comes_then n b xs rest (in_turn a b1 us vs h i) z o =
      bind_got (p n ((us ++ vs) ++ rest)) a (vs ++ rest) (λ a ts1. q a n ts1) (Got b rest)
      (ap (λ y. p n y) (append_assoc us vs rest) ∙ l.comes n a us (vs ++ rest) h (front_le us vs n z)
      (follows m1 f2 [] n2 vs rest d ((k a us h).heads b vs i) (out_first n2 (code_of (peek rest)) m1 m2 o)))
      ((k a us h).comes n b vs rest i (behind_le us vs n z) (out_second n2 (code_of (peek rest)) m1 m2 o))

  heads_both : (b : B) (xs : List Lexeme) → Then L K b xs → Heads (joined_if n1 f1 f2) (both n1 n2) xs
  heads_both b xs (in_turn a b1 us vs h i) = heads_then f1 f2 n1 n2 us vs (l.heads a us h) ((k a us h).heads b vs i)
