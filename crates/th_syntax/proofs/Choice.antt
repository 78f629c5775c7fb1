-- A choice between two readings by the next mark.
use Rattle.std.proofs.Common.{◌≡◌, ℕ, ◌≤◌, Bool, true, false, List, [], ◌++◌, length, Option, refl, if◌then◌else◌}
use Rattle.th_tree.specs.declared.lexeme.Mark.{Mark}
use Rattle.th_tree.specs.declared.lexeme.Lexeme.{Lexeme}
use Rattle.th_tree.specs.Forms.{Either, left, right}
use Rattle.th_syntax.specs.Read.{Got, Bad, P, peek, code_of, member, in_set, choose}
use Rattle.th_syntax.proofs.Good.{Good, good_bad, good_map, good_if}
use Rattle.th_syntax.proofs.Steady.{Steady, steady_bad, steady_look, steady_test}
use Rattle.th_syntax.proofs.Sets.{disjoint, joined_if, out_left, out_right, Heads, heads_left, heads_right, begins, begins_not}
use Rattle.th_syntax.proofs.Law.{Law, a_word}

module _ {A : Type 0} {L K : A → List Lexeme → Type 0} {p q : ℕ → P A} {f1 f2 : List ℕ} {n2 : Bool} {m1 m2 : List ℕ} (test : Option Mark → Bool) (g1 g2 : Bool)
    (is : (o : Option Mark) → test o ≡ in_set f1 o)
    (l : g1 ≡ true → Law L p f1 false m1) (none_l : g1 ≡ false → (a : A) (xs : List Lexeme) → L a xs → ⊥)
    (k : g2 ≡ true → Law K q f2 n2 m2) (none_k : g2 ≡ false → (a : A) (xs : List Lexeme) → K a xs → ⊥)
    (some : (a : A) × (xs : List Lexeme) × Either L K a xs) (apart : disjoint f1 f2 ≡ true) where
  stopped : (ts : List Lexeme) → Good (Either L K) ts (Bad ts)
  stopped ts = good_bad (Either L K) ts some.1 some.0 some.2

  good_choice : (n : ℕ) (ts : List Lexeme) → Good (Either L K) ts (choose test g1 g2 p q n ts)
  good_choice n ts =
      good_if (Either L K) ts (test (peek ts)) _ _
      (λ e. good_if (Either L K) ts g1 _ _ (λ i. good_map L (Either L K) ts (p n ts) (λ a xs h. left a xs h) ((l i).good n ts)) (λ i. stopped ts))
      (λ e. good_if (Either L K) ts g2 _ _ (λ i. good_map K (Either L K) ts (q n ts) (λ a xs h. right a xs h) ((k i).good n ts)) (λ i. stopped ts))

  steady_choice : (n m : ℕ) (ts : List Lexeme) → length ts ≤ n → Steady (choose test g1 g2 p q m) m ts (choose test g1 g2 p q n ts)
  steady_choice n m ts z =
      steady_look (λ o y. if test o then (if g1 then p m y else Bad y) else (if g2 then q m y else Bad y)) m ts _
      (steady_test (test (peek ts)) (λ y. if g1 then p m y else Bad y) (λ y. if g2 then q m y else Bad y) m ts _ _
      (λ e. steady_test g1 (p m) Bad m ts (p n ts) (Bad ts) (λ i. (l i).steady n m ts z) (λ i. steady_bad m ts))
      (λ e. steady_test g2 (q m) Bad m ts (q n ts) (Bad ts) (λ i. (k i).steady n m ts z) (λ i. steady_bad m ts)))

  decide : (g : Bool) (P : Bool → Type 0) → (g ≡ true → P true) → (g ≡ false → P false) → P g
  decide true P x y = x refl
  decide false P x y = y refl

  comes_choice : (n : ℕ) (a : A) (xs rest : List Lexeme) → Either L K a xs → length xs ≤ n → in_set m1 (peek rest) ≡ false → in_set m2 (peek rest) ≡ false
      → ((us : List Lexeme) → Heads f2 n2 us → in_set f1 (peek (us ++ rest)) ≡ false) → choose test g1 g2 p q n (xs ++ rest) ≡ Got a rest
  comes_choice n a xs rest (left b us h) z o1 o2 t =
      decide g1 (λ g. (if test (peek (us ++ rest)) then (if g then p n (us ++ rest) else Bad (us ++ rest)) else (if g2 then q n (us ++ rest) else Bad (us ++ rest))) ≡ Got b rest)
      (λ i. rw (is (peek (us ++ rest)), begins f1 us rest ((l i).heads b us h)) ((l i).comes n b us rest h z o1))
      (λ i. absurd (none_l i b us h))
  comes_choice n a xs rest (right b us h) z o1 o2 t =
      decide g2 (λ g. (if test (peek (us ++ rest)) then (if g1 then p n (us ++ rest) else Bad (us ++ rest)) else (if g then q n (us ++ rest) else Bad (us ++ rest))) ≡ Got b rest)
      (λ i. rw (is (peek (us ++ rest)), t us ((k i).heads b us h)) ((k i).comes n b us rest h z o2))
      (λ i. absurd (none_k i b us h))

  heads_choice : (a : A) (xs : List Lexeme) → Either L K a xs → Heads (f1 ++ f2) n2 xs
  heads_choice a xs (left b us h) = decide g1 (λ g. Heads (f1 ++ f2) n2 us) (λ i. heads_left f1 f2 n2 us ((l i).heads b us h)) (λ i. absurd (none_l i b us h))
  heads_choice a xs (right b us h) = decide g2 (λ g. Heads (f1 ++ f2) n2 us) (λ i. heads_right f1 f2 n2 us ((k i).heads b us h)) (λ i. absurd (none_k i b us h))

  -- the marks that may go on: those of both, and where the second may be empty those that begin the first
  pub law_choice : Law (Either L K) (choose test g1 g2 p q) (f1 ++ f2) n2 (m1 ++ (m2 ++ joined_if n2 [] f1))
  law_choice = record {
    good = good_choice;
    steady = steady_choice;
    comes = λ n a xs rest h z o.
        let c = code_of (peek rest) in
        let o1 : member c m1 ≡ false = out_left c m1 (m2 ++ joined_if n2 [] f1) o in
        let o2 : member c (m2 ++ joined_if n2 [] f1) ≡ false = out_right c m1 (m2 ++ joined_if n2 [] f1) o in
        let o3 : member c (joined_if n2 [] f1) ≡ false = out_right c m2 (joined_if n2 [] f1) o2 in
        comes_choice n a xs rest h z o1 (out_left c m2 (joined_if n2 [] f1) o2) (λ us i. begins_not f1 f2 n2 us rest apart i (λ e. empty_out n2 c e o3));
    heads = heads_choice;
  } where
    empty_out : (b : Bool) (c : ℕ) → b ≡ true → member c (joined_if b [] f1) ≡ false → member c f1 ≡ false
    empty_out true c e o = o
    empty_out false c e o = absurd (cc)

-- a choice without conditions
pub law_either : {A : Type 0} {L K : A → List Lexeme → Type 0} {p q : ℕ → P A} {f1 f2 : List ℕ} {n2 : Bool} {m1 m2 : List ℕ} → Law L p f1 false m1 → Law K q f2 n2 m2 → disjoint f1 f2 ≡ true
    → Law (Either L K) (choose (in_set f1) true true p q) (f1 ++ f2) n2 (m1 ++ (m2 ++ joined_if n2 [] f1))
law_either {L = L} {K = K} {p = p} {f1 = f1} l k d =
    let w = a_word L [] (p 0 []) (l.good 0 []) in
    law_choice (in_set f1) true true (λ o. refl) (λ e. l) (λ e. absurd (cc)) (λ e. k) (λ e. absurd (cc)) (w.0, w.1, left w.0 w.1 w.2) d

-- a choice where the first has words only where the condition holds
pub law_first_if : {A : Type 0} {L K : A → List Lexeme → Type 0} {p q : ℕ → P A} {f1 f2 : List ℕ} {n2 : Bool} {m1 m2 : List ℕ} (g : Bool) → (g ≡ true → Law L p f1 false m1)
    → (g ≡ false → (a : A) (xs : List Lexeme) → L a xs → ⊥) → Law K q f2 n2 m2 → disjoint f1 f2 ≡ true
    → Law (Either L K) (choose (in_set f1) g true p q) (f1 ++ f2) n2 (m1 ++ (m2 ++ joined_if n2 [] f1))
law_first_if {L = L} {K = K} {q = q} {f1 = f1} g l none k d =
    let w = a_word K [] (q 0 []) (k.good 0 []) in
    law_choice (in_set f1) g true (λ o. refl) l none (λ e. k) (λ e. absurd (cc)) (w.0, w.1, right w.0 w.1 w.2) d

-- a choice where the second has words only where the condition holds
pub law_second_if : {A : Type 0} {L K : A → List Lexeme → Type 0} {p q : ℕ → P A} {f1 f2 : List ℕ} {n2 : Bool} {m1 m2 : List ℕ} (g : Bool) → Law L p f1 false m1 → (g ≡ true → Law K q f2 n2 m2)
    → (g ≡ false → (a : A) (xs : List Lexeme) → K a xs → ⊥) → disjoint f1 f2 ≡ true
    → Law (Either L K) (choose (in_set f1) true g p q) (f1 ++ f2) n2 (m1 ++ (m2 ++ joined_if n2 [] f1))
law_second_if {L = L} {K = K} {p = p} {f1 = f1} g l k none d =
    let w = a_word L [] (p 0 []) (l.good 0 []) in
    law_choice (in_set f1) true g (λ o. refl) (λ e. l) (λ e. absurd (cc)) k none (w.0, w.1, left w.0 w.1 w.2) d
