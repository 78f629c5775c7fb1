-- The turns of the code's loops over lists.
use Rattle.std.proofs.Common.{◌≡◌, ℕ, zero, suc, ◌<◌, ◌+◌, ◌-◌, Bool, true, false, Option, List, [], ◌∷◌, refl, sym, ◌∙◌, subst, ap, arith}
use Rattle.th_tree.specs.declared.lexeme.Mark.{Mark}
use Rattle.th_tree.specs.declared.lexeme.Lexeme.{Lexeme}
use Rattle.th_syntax.specs.declared.step.Stop.{Stop}
use Rattle.th_syntax.specs.declared.step.Stop.TheVariants.{Memory, Wrong}
use Rattle.th_syntax.specs.Read.{Res, Got, Bad, P, bind, peek, take_one, is_mark, mark, listed, many, steps}
use Rattle.th_syntax.specs.Gives.{Fails}
use Rattle.th_syntax.specs.Lists.{with_back}

after_mark : (c : Mark) (ts next : List Lexeme) (p : ℕ) → is_mark c (peek ts) ≡ true → mark c ts ≡ Got p next → (t : Lexeme) × (ts ≡ t ∷ next)
after_mark c ts next p i e = split ts (sym (rw i refl) ∙ e) where
  split : (ts : List Lexeme) → bind (take_one ts) (λ t ts1. Got t.at ts1) ≡ Got p next → (t : Lexeme) × (ts ≡ t ∷ next)
  split [] e = absurd (cc)
  split (t ∷ us) e = let d : us ≡ next = rest_same us e in (t, ap (λ y. t ∷ y) d) where
    rest_same : (us : List Lexeme) → Got t.at us ≡ Got p next → us ≡ next
    rest_same us e = cc

pub with_none : {B : Type 0} (onto : B → B → B) (none : B) → ((b : B) → onto none b ≡ b) → (x : Res B) → x ≡ with_back onto none x
with_none onto none l (Got b rest) = ap (λ y. Got y rest) (sym (l b))
with_none onto none l (Bad rest) = refl

module _ {A B : Type 0} (c : Mark) (item : ℕ → P A) (more : A → B → B) (none : B) (onto : B → B → B) (add : B → A → B) (law : (a : A) (b done : B) → onto (add b a) done ≡ onto b (more a done)) where
  back_one : (b : B) (a : A) (x : Res B) → with_back onto b (bind x (λ bs rest. Got (more a bs) rest)) ≡ with_back onto (add b a) x
  back_one b a (Got bs rest) = ap (λ y. Got y rest) (sym (law a b bs))
  back_one b a (Bad rest) = refl

  pub one_item : (m i n p : ℕ) (b : B) (a : A) (ts after next : List Lexeme) (total : Res B) → i < m → item n ts ≡ Got a after → is_mark c (peek after) ≡ true → mark c after ≡ Got p next
      → total ≡ with_back onto b (listed c item more none (m - i) n ts) → total ≡ with_back onto (add b a) (listed c item more none (m - (i + 1)) n next)
  one_item m i n p b a ts after next total l e j k d =
      let z : m - i ≡ suc (m - (i + 1)) = omega arith in
      let s = after_mark c after next p j k in
      let d1 : total ≡ with_back onto b (listed c item more none (suc (m - (i + 1))) n ts) = subst (λ q. total ≡ with_back onto b (listed c item more none q n ts)) z d in
      let step : listed c item more none (suc (m - (i + 1))) n ts ≡ bind (listed c item more none (m - (i + 1)) n next) (λ bs rest. Got (more a bs) rest) = go s.0 after s.1 e j in
      d1 ∙ (ap (λ q. with_back onto b q) step ∙ back_one b a (listed c item more none (m - (i + 1)) n next)) where
        go : (t : Lexeme) (after : List Lexeme) → after ≡ t ∷ next → item n ts ≡ Got a after → is_mark c (peek after) ≡ true
            → listed c item more none (suc (m - (i + 1))) n ts ≡ bind (listed c item more none (m - (i + 1)) n next) (λ bs rest. Got (more a bs) rest)
        go t after q e j =
            let e1 : item n ts ≡ Got a (t ∷ next) = subst (λ y. item n ts ≡ Got a y) q e in
            let j1 : is_mark c (peek (t ∷ next)) ≡ true = subst (λ y. is_mark c (peek y) ≡ true) q j in
            rw (e1, j1) refl

  pub last_item : (m i n : ℕ) (b : B) (a : A) (ts after : List Lexeme) (total : Res B) → i < m → item n ts ≡ Got a after → is_mark c (peek after) ≡ false
      → total ≡ with_back onto b (listed c item more none (m - i) n ts) → total ≡ Got (onto (add b a) none) after
  last_item m i n b a ts after total l e j d =
      let z : m - i ≡ suc (m - (i + 1)) = omega arith in
      let d1 : total ≡ with_back onto b (listed c item more none (suc (m - (i + 1))) n ts) = subst (λ q. total ≡ with_back onto b (listed c item more none q n ts)) z d in
      d1 ∙ (rw (e, j) refl ∙ ap (λ y. Got y after) (sym (law a b none)))

  pub end_item : (m i n : ℕ) (b : B) (a : A) (ts after : List Lexeme) (total : Res B) → i ≡ m → item n ts ≡ Got a after
      → total ≡ with_back onto b (listed c item more none (m - i) n ts) → total ≡ Got (onto (add b a) none) after
  end_item m i n b a ts after total l e d =
      let z : m - i ≡ 0 = omega arith in
      let d1 : total ≡ with_back onto b (listed c item more none 0 n ts) = subst (λ q. total ≡ with_back onto b (listed c item more none q n ts)) z d in
      d1 ∙ (rw e refl ∙ ap (λ y. Got y after) (sym (law a b none)))

  pub bad_item : (k n : ℕ) (b : B) (ts : List Lexeme) (total : Res B) (s : Stop) → Fails s (item n ts) → total ≡ with_back onto b (listed c item more none k n ts) → Fails s total
  bad_item k n b ts total Memory f d = tt
  bad_item zero n b ts total (Wrong us) f d = d ∙ rw f refl
  bad_item (suc k) n b ts total (Wrong us) f d = d ∙ rw f refl

-- the turns of the loops over steps
module _ {A : Type 0} (test : Option Mark → Bool) (goes : A → Bool) (step : A → ℕ → P A) where
  pub first_step : (r n : ℕ) (a : A) (ts : List Lexeme) → steps test goes step (suc r) a n ts ≡ steps test goes step (suc r - 0) a n ts
  first_step r n a ts = let z : suc r - 0 ≡ suc r = omega arith in ap (λ k. steps test goes step k a n ts) (sym z)

  pub one_step : (r i n : ℕ) (a b : A) (ts more : List Lexeme) (total : Res A) → i < r + 1 → test (peek ts) ≡ true → goes a ≡ true → step a n ts ≡ Got b more
      → total ≡ steps test goes step (suc r - i) a n ts → total ≡ steps test goes step (suc r - (i + 1)) b n more
  one_step r i n a b ts more total l j g e d =
      let z : suc r - i ≡ suc (suc r - (i + 1)) = omega arith in
      let d1 : total ≡ steps test goes step (suc (suc r - (i + 1))) a n ts = subst (λ q. total ≡ steps test goes step q a n ts) z d in
      d1 ∙ rw (j, g, e) refl

  pub shut_step : (r i n : ℕ) (a : A) (ts : List Lexeme) (total : Res A) → i < r + 1 → test (peek ts) ≡ true → goes a ≡ false
      → total ≡ steps test goes step (suc r - i) a n ts → total ≡ Bad ts
  shut_step r i n a ts total l j g d =
      let z : suc r - i ≡ suc (suc r - (i + 1)) = omega arith in
      let d1 : total ≡ steps test goes step (suc (suc r - (i + 1))) a n ts = subst (λ q. total ≡ steps test goes step q a n ts) z d in
      d1 ∙ rw (j, g) refl

  pub bad_step : (r i n : ℕ) (a : A) (ts : List Lexeme) (total : Res A) (s : Stop) → i < r + 1 → test (peek ts) ≡ true → goes a ≡ true → Fails s (step a n ts)
      → total ≡ steps test goes step (suc r - i) a n ts → Fails s total
  bad_step r i n a ts total Memory l j g f d = tt
  bad_step r i n a ts total (Wrong us) l j g f d =
      let z : suc r - i ≡ suc (suc r - (i + 1)) = omega arith in
      let d1 : total ≡ steps test goes step (suc (suc r - (i + 1))) a n ts = subst (λ q. total ≡ steps test goes step q a n ts) z d in
      d1 ∙ rw (j, g, f) refl

-- the turns of the loops over any number of items
module _ {A B : Type 0} (test : Option Mark → Bool) (item : ℕ → P A) (more : A → B → B) (last : ℕ → P B) (onto : B → B → B) (add : B → A → B) (law : (a : A) (b done : B) → onto (add b a) done ≡ onto b (more a done)) where
  many_back : (b : B) (a : A) (x : Res B) → with_back onto b (bind x (λ bs rest. Got (more a bs) rest)) ≡ with_back onto (add b a) x
  many_back b a (Got bs rest) = ap (λ y. Got y rest) (sym (law a b bs))
  many_back b a (Bad rest) = refl

  pub one_more : (m i n : ℕ) (b : B) (a : A) (ts after : List Lexeme) (total : Res B) → i < m → test (peek ts) ≡ true → item n ts ≡ Got a after
      → total ≡ with_back onto b (many test item more last (m - i) n ts) → total ≡ with_back onto (add b a) (many test item more last (m - (i + 1)) n after)
  one_more m i n b a ts after total l j e d =
      let z : m - i ≡ suc (m - (i + 1)) = omega arith in
      let d1 : total ≡ with_back onto b (many test item more last (suc (m - (i + 1))) n ts) = subst (λ q. total ≡ with_back onto b (many test item more last q n ts)) z d in
      let step : many test item more last (suc (m - (i + 1))) n ts ≡ bind (many test item more last (m - (i + 1)) n after) (λ bs rest. Got (more a bs) rest) = rw (j, e) refl in
      d1 ∙ (ap (λ q. with_back onto b q) step ∙ many_back b a (many test item more last (m - (i + 1)) n after))

  pub no_more : (k n : ℕ) (b : B) (ts : List Lexeme) (total : Res B) → test (peek ts) ≡ false → total ≡ with_back onto b (many test item more last k n ts) → total ≡ with_back onto b (last n ts)
  no_more zero n b ts total j d = d
  no_more (suc k) n b ts total j d = d ∙ rw j refl

  pub all_more : (m i n : ℕ) (b : B) (ts : List Lexeme) (total : Res B) → i ≡ m → total ≡ with_back onto b (many test item more last (m - i) n ts) → total ≡ with_back onto b (last n ts)
  all_more m i n b ts total l d = let z : m - i ≡ 0 = omega arith in subst (λ q. total ≡ with_back onto b (many test item more last q n ts)) z d

  pub bad_more : (m i n : ℕ) (b : B) (ts : List Lexeme) (total : Res B) (s : Stop) → i < m → test (peek ts) ≡ true → Fails s (item n ts) → total ≡ with_back onto b (many test item more last (m - i) n ts) → Fails s total
  bad_more m i n b ts total Memory l j f d = tt
  bad_more m i n b ts total (Wrong us) l j f d =
      let z : m - i ≡ suc (m - (i + 1)) = omega arith in
      let d1 : total ≡ with_back onto b (many test item more last (suc (m - (i + 1))) n ts) = subst (λ q. total ≡ with_back onto b (many test item more last q n ts)) z d in
      d1 ∙ rw (j, f) refl
