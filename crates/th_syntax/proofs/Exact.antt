-- At most one tree, and the exact place of a refusal, of each reading that keeps the law.
use Rattle.std.proofs.Common.{◌≡◌, ◌≢◌, ℕ, ◌≤◌, Bool, false, List, [], ◌∷◌, ◌++◌, length, refl, sym, ◌∙◌, subst, append-nil, le_refl, arith}
use Rattle.std.proofs.lemmas.List.{append_cancel_right}
use Rattle.th_tree.specs.declared.lexeme.Lexeme.{Lexeme}
use Rattle.th_tree.specs.Verdict.{FirstWrong}
use Rattle.th_syntax.specs.Read.{Got, Bad, P, member}
use Rattle.th_syntax.proofs.Good.{Good, goods, bads}
use Rattle.th_syntax.proofs.Steady.{Steady, gots, stops}
use Rattle.th_syntax.proofs.Law.{Law}

again_got : {A : Type 0} (g : P A) (m : ℕ) (a : A) (ts xs p zs : List Lexeme) (t : Lexeme) → ts ≡ xs ++ t ∷ p → Steady g m ts (Got a (t ∷ p)) → length (xs ++ t ∷ zs) ≤ m → g (xs ++ t ∷ zs) ≡ Got a (t ∷ zs)
again_got g m a ts xs p zs t e (gots b ys rest d h) l =
    let same : ys ≡ xs = append_cancel_right ys xs (t ∷ p) (sym d ∙ e) in
    subst (λ q. length (q ++ t ∷ zs) ≤ m → g (q ++ t ∷ zs) ≡ Got a (t ∷ zs)) same (λ i. h t p zs refl i) l

again_bad : {A : Type 0} (g : P A) (m : ℕ) (ts xs p zs : List Lexeme) (t : Lexeme) → ts ≡ xs ++ t ∷ p → Steady g m ts (Bad (t ∷ p)) → length (xs ++ t ∷ zs) ≤ m → g (xs ++ t ∷ zs) ≡ Bad (t ∷ zs)
again_bad g m ts xs p zs t e (stops ys rest d h) l =
    let same : ys ≡ xs = append_cancel_right ys xs (t ∷ p) (sym d ∙ e) in
    subst (λ q. length (q ++ t ∷ zs) ≤ m → g (q ++ t ∷ zs) ≡ Bad (t ∷ zs)) same (λ i. h t p zs refl i) l

-- the marks that may go on with a word hold no mark that is not there
module _ {A : Type 0} {L : A → List Lexeme → Type 0} {run : ℕ → P A} {f : List ℕ} {b : Bool} {m : List ℕ} (l : Law L run f b m) (none : member 3 m ≡ false) where
  pub reads_whole : (n : ℕ) (a : A) (xs : List Lexeme) → L a xs → length xs ≤ n → run n xs ≡ Got a []
  reads_whole n a xs h z = subst (λ y. run n y ≡ Got a []) (append-nil xs) (l.comes n a xs [] h z none)

  -- at most one tree
  pub unique : (a c : A) (xs : List Lexeme) → L a xs → L c xs → a ≡ c
  unique a c xs h i = same (sym (reads_whole (length xs) a xs h (le_refl _)) ∙ reads_whole (length xs) c xs i (le_refl _)) where
    same : Got a [] ≡ Got c [] → a ≡ c
    same e = cc

  got_wrong : (n : ℕ) (ts xs p zs : List Lexeme) (t : Lexeme) (a c : A) → length ts ≤ n → ts ≡ xs ++ t ∷ p → run n ts ≡ Got a (t ∷ p) → L c (xs ++ t ∷ zs) → ⊥
  got_wrong n ts xs p zs t a c z e d i =
      let y = length (xs ++ t ∷ zs) in
      let s : Steady (run y) y ts (Got a (t ∷ p)) = subst (λ r. Steady (run y) y ts r) d (l.steady n y ts z) in
      let h : run y (xs ++ t ∷ zs) ≡ Got a (t ∷ zs) = again_got (run y) y a ts xs p zs t e s (le_refl y) in
      let j : Got a (t ∷ zs) ≡ Got c [] = sym h ∙ reads_whole y c (xs ++ t ∷ zs) i (le_refl y) in cc j

  bad_wrong : (n : ℕ) (ts xs p zs : List Lexeme) (t : Lexeme) (c : A) → length ts ≤ n → ts ≡ xs ++ t ∷ p → run n ts ≡ Bad (t ∷ p) → L c (xs ++ t ∷ zs) → ⊥
  bad_wrong n ts xs p zs t c z e d i =
      let y = length (xs ++ t ∷ zs) in
      let s : Steady (run y) y ts (Bad (t ∷ p)) = subst (λ r. Steady (run y) y ts r) d (l.steady n y ts z) in
      let h : run y (xs ++ t ∷ zs) ≡ Bad (t ∷ zs) = again_bad (run y) y ts xs p zs t e s (le_refl y) in
      let j : Bad (t ∷ zs) ≡ Got c [] = sym h ∙ reads_whole y c (xs ++ t ∷ zs) i (le_refl y) in cc j

  -- what was read at the front
  pub front_of : (n : ℕ) (ts : List Lexeme) (a : A) (rest : List Lexeme) → run n ts ≡ Got a rest → (xs : List Lexeme) × (ts ≡ xs ++ rest) × L a xs
  front_of n ts a rest d = go (subst (λ r. Good L ts r) d (l.good n ts)) where
    go : Good L ts (Got a rest) → (xs : List Lexeme) × (ts ≡ xs ++ rest) × L a xs
    go (goods a1 xs rest1 e h) = (xs, e, h)

  pub is_tree : (n : ℕ) (ts : List Lexeme) (a : A) → run n ts ≡ Got a [] → L a ts
  is_tree n ts a d = let g = front_of n ts a [] d in subst (λ y. L a y) (sym (g.1 ∙ append-nil g.0)) g.2

  pub surplus : (n : ℕ) (ts p : List Lexeme) (t : Lexeme) (a : A) → length ts ≤ n → run n ts ≡ Got a (t ∷ p) → FirstWrong L ts (t ∷ p)
  surplus n ts p t a z d = let g = front_of n ts a (t ∷ p) d in record {
    front = g.0;
    split = g.1;
    begins = (a, [], subst (λ y. L a y) (sym (append-nil g.0)) g.2);
    wrong = λ u q zs c e i. let same : t ≡ u = cc in got_wrong n ts g.0 p zs t a c z g.1 d (subst (λ w. L c (g.0 ++ w ∷ zs)) (sym same) i);
    early = λ c e. absurd (cc);
  }

  bad_front : (n : ℕ) (ts rest : List Lexeme) → run n ts ≡ Bad rest → (xs : List Lexeme) × (ts ≡ xs ++ rest) × (a : A) × (zs : List Lexeme) × L a (xs ++ zs)
  bad_front n ts rest d = go (subst (λ r. Good L ts r) d (l.good n ts)) where
    go : Good L ts (Bad rest) → (xs : List Lexeme) × (ts ≡ xs ++ rest) × (a : A) × (zs : List Lexeme) × L a (xs ++ zs)
    go (bads a xs zs rest1 e h) = (xs, e, a, zs, h)

  pub refused : (n : ℕ) (ts rest : List Lexeme) → length ts ≤ n → run n ts ≡ Bad rest → FirstWrong L ts rest
  refused n ts [] z d = let g = bad_front n ts [] d in record {
    front = g.0;
    split = g.1;
    begins = (g.2, g.3, g.4);
    wrong = λ u q us c e i. absurd (cc);
    early = λ c e i. let j : Bad [] ≡ Got c [] = sym d ∙ reads_whole n c ts i z in absurd (cc j);
  }
  refused n ts (t ∷ p) z d = let g = bad_front n ts (t ∷ p) d in record {
    front = g.0;
    split = g.1;
    begins = (g.2, g.3, g.4);
    wrong = λ u q us c e i. let same : t ≡ u = cc in bad_wrong n ts g.0 p us t c z g.1 d (subst (λ w. L c (g.0 ++ w ∷ us)) (sym same) i);
    early = λ c e. absurd (cc);
  }

  -- the same by the length of what is left
  pub tree_done : (n : ℕ) (ts rest : List Lexeme) (a : A) → run n ts ≡ Got a rest → length rest ≡ 0 → L a ts
  tree_done n ts [] a d e = is_tree n ts a d
  tree_done n ts (t ∷ p) a d e = absurd (omega arith)

  pub tree_surplus : (n : ℕ) (ts rest : List Lexeme) (a : A) → length ts ≤ n → run n ts ≡ Got a rest → length rest ≢ 0 → FirstWrong L ts rest
  tree_surplus n ts [] a z d e = absurd (e refl)
  tree_surplus n ts (t ∷ p) a z d e = surplus n ts p t a z d
