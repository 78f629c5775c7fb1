-- Texts cut into tokens, one after the other.
use Rattle.std.proofs.Common.{◌≡◌, ℕ, zero, suc, ◌+◌, ◌<◌, ◌≤◌, ◌⊎◌, inl, inr, List, [], ◌∷◌, ◌++◌, map, length, drop, slice_get, get_or, Some, Err, IfSome, refl, sym, ◌∙◌, subst, ap, append_assoc, append-nil, length-append, arith}
use Rattle.std.specs.Prelude.{option_map}
use Rattle.std.proofs.lemmas.Option.{slice_get-map, slice_get-get_or}
use Rattle.std.proofs.lemmas.List.{length-map}
use Rattle.th_tree.specs.declared.tokens.Token.{Token}
use Rattle.th_tree.specs.Spans.{Tokenized}
use Rattle.th_tree.specs.Cut.{Cuts, HasVerdict}
use Rattle.th_lex.specs.declared.LexError.{LexError}
use Rattle.th_lex.specs.declared.LexError.TheVariants as lexing
use Rattle.th_lex.specs.Answer.{verdict_of}
use Rattle.th_lex.proofs.Unique.{one_verdict}
use Rattle.th_module_rules.specs.Texts.{AreTokens}
use Rattle.th_module_rules.specs.Refusals.{AreCut}
use Rattle.th_texts.specs.declared.error.TextError.{TextError}
use Rattle.th_texts.specs.Tokens.{AreAllTokens, HaveNoTokens, error_of}

pub drop_at : {A : Type 0} (xs : List A) (j : ℕ) (x : A) → slice_get xs j ≡ Some x → drop j xs ≡ x ∷ drop (suc j) xs
drop_at [] j x e = absurd (cc)
drop_at (y ∷ xs) zero x e = let d : y ≡ x = cc in ap (λ z. z ∷ xs) d
drop_at (y ∷ xs) (suc j) x e = drop_at xs j x e

pub drop_next : {A : Type 0} (xs : List A) (j : ℕ) (x : A) → slice_get xs j ≡ Some x → drop j xs ≡ x ∷ drop (j + 1) xs
drop_next xs j x e = let o : suc j ≡ j + 1 = omega arith in subst (λ i. drop j xs ≡ x ∷ drop i xs) o (drop_at xs j x e)

-- the tokens of a text are one list
pub one_list : (t : List ℕ) (us vs : List Token) → AreTokens t us → AreTokens t vs → us ≡ vs
one_list t us vs a b = let e : Cuts vs ≡ Cuts us = one_verdict t (Cuts us) (Cuts vs) a.cut b.cut in cc

-- the first j texts are cut
pub record CutSoFar (texts : List (List ℕ)) (j : ℕ) (done : List Tokenized) : Type 0 where
  pub rest : (ys : List Tokenized) → AreAllTokens (drop j texts) ys → AreAllTokens texts (done ++ ys)
  pub cut : AreCut j texts
  pub number : length done ≡ j

pub cut_starts : (texts : List (List ℕ)) → CutSoFar texts 0 []
cut_starts texts = record { rest = λ ys h. h; cut = λ j t l e. absurd (omega (arith, l)); number = refl }

cut_more : (texts : List (List ℕ)) (j : ℕ) (t : List ℕ) (ts : List Token) → AreCut j texts → slice_get texts j ≡ Some t → AreTokens t ts → AreCut (j + 1) texts
cut_more texts j t ts c e a k u l g = go (before k j l) where
  before : (k j : ℕ) → k < j + 1 → (k < j) ⊎ (k ≡ j)
  before zero zero l = inr refl
  before zero (suc j) l = inl (omega arith)
  before (suc k) zero l = absurd (omega (arith, l))
  before (suc k) (suc j) l = elim (before k j (omega (arith, l))) [ inl h ↦ inl (omega (arith, h)) | inr h ↦ inr (ap suc h) ]

  go : (k < j) ⊎ (k ≡ j) → (us : List Token) × AreTokens u us
  go (inl h) = c k u h g
  go (inr h) = let d : Some u ≡ Some t = sym g ∙ ap (λ i. slice_get texts i) h ∙ e in let w : t ≡ u = cc in (ts, subst (λ y. AreTokens y ts) w a)

-- the next text is cut
pub cut_goes : (texts : List (List ℕ)) (j : ℕ) (done new : List Tokenized) (t : List ℕ) (x : Tokenized) → CutSoFar texts j done → slice_get texts j ≡ Some t → x.text ≡ t → AreTokens t x.list
    → new ≡ done ++ x ∷ [] → CutSoFar texts (j + 1) new
cut_goes texts j done new t x s e d a p = record {
  rest = λ ys h. subst (λ y. AreAllTokens texts y) (sym (ap (λ (z : List Tokenized). z ++ ys) p ∙ append_assoc done (x ∷ []) ys))
      (s.rest (x ∷ ys) (subst (λ y. AreAllTokens y (x ∷ ys)) (sym (drop_next texts j t e)) (d, a, h)));
  cut = cut_more texts j t x.list s.cut e a;
  number = ap length p ∙ length-append done (x ∷ []) ∙ ap (λ (n : ℕ). n + 1) s.number;
}

-- the next text is not cut, for this reason
pub cut_fails : (texts : List (List ℕ)) (j n : ℕ) (done : List Tokenized) (t : List ℕ) (e : LexError) (r : TextError) → CutSoFar texts j done → slice_get texts j ≡ Some t → n ≡ length done → r ≡ error_of n e
    → IfSome (verdict_of (Err e)) (λ v. HasVerdict t v) → HaveNoTokens texts r
cut_fails texts j n done t e r s g l d v = subst (λ y. HaveNoTokens texts y) (sym (d ∙ ap (λ i. error_of i e) (l ∙ s.number))) (go e v) where
  go : (e : LexError) → IfSome (verdict_of (Err e)) (λ v. HasVerdict t v) → HaveNoTokens texts (error_of j e)
  go (lexing.BadByte p) v = (t, g, s.cut, v)
  go (lexing.WideNumber p) v = (t, g, s.cut, v)
  go lexing.Memory v = tt

drop_past : {A : Type 0} (xs : List A) (j : ℕ) → length xs ≤ j → drop j xs ≡ []
drop_past [] zero l = refl
drop_past [] (suc j) l = refl
drop_past (x ∷ xs) zero l = absurd (omega (arith, l))
drop_past (x ∷ xs) (suc j) l = drop_past xs j (omega (arith, l))

-- all texts are cut
pub cut_ends : {A : Type 0} (f : A → List ℕ) (xs : List A) (j : ℕ) (done : List Tokenized) → CutSoFar (map f xs) j done → length xs ≤ j → AreAllTokens (map f xs) done
cut_ends f xs j done s l =
    let past : drop j (map f xs) ≡ [] = drop_past (map f xs) j (omega (arith, l, length-map xs f)) in
    subst (λ y. AreAllTokens (map f xs) y) (append-nil done) (s.rest [] (subst (λ y. AreAllTokens y []) (sym past) tt))

-- the text at an index
pub text_at : {A : Type 0} (f : A → List ℕ) (xs : List A) (j : ℕ) (d : A) → j < length xs → slice_get (map f xs) j ≡ Some (f (get_or xs j d))
text_at f xs j d l = slice_get-map f xs j ∙ ap (λ o. option_map f o) (slice_get-get_or xs j d l)

-- a text and its tokens
pub all_of : (texts : List (List ℕ)) (xs : List Tokenized) (j : ℕ) (x : Tokenized) → AreAllTokens texts xs → slice_get xs j ≡ Some x → (slice_get texts j ≡ Some x.text) × AreTokens x.text x.list
all_of [] [] j x a e = absurd (cc)
all_of [] (y ∷ ys) j x a e = absurd a
all_of (t ∷ ts) [] j x a e = absurd a
all_of (t ∷ ts) (y ∷ ys) zero x (d, k, a) e =
    let w : y ≡ x = cc in
    subst (λ z. (Some t ≡ Some z.text) × AreTokens z.text z.list) w (ap Some (sym d), subst (λ u. AreTokens u y.list) (sym d) k)
all_of (t ∷ ts) (y ∷ ys) (suc j) x (d, k, a) e = all_of ts ys j x a e

pub all_at : (texts : List (List ℕ)) (xs : List Tokenized) (j : ℕ) (u : List ℕ) → AreAllTokens texts xs → slice_get texts j ≡ Some u
    → (x : Tokenized) × (slice_get xs j ≡ Some x) × (x.text ≡ u) × AreTokens u x.list
all_at [] [] j u a e = absurd (cc)
all_at [] (y ∷ ys) j u a e = absurd a
all_at (t ∷ ts) [] j u a e = absurd a
all_at (t ∷ ts) (y ∷ ys) zero u (d, k, a) e = let w : t ≡ u = cc in (y, refl, d ∙ w, subst (λ z. AreTokens z y.list) w k)
all_at (t ∷ ts) (y ∷ ys) (suc j) u (d, k, a) e = all_at ts ys j u a e

pub all_cut : (texts : List (List ℕ)) (xs : List Tokenized) (n : ℕ) → AreAllTokens texts xs → AreCut n texts
all_cut texts xs n a j t l e = let x = all_at texts xs j t a e in (x.0.list, x.3)
