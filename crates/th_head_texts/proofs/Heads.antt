-- The tokens of heads, one after another.
use Rattle.std.proofs.Common.{add-one, ◌≡◌, ℕ, zero, suc, ◌+◌, ◌≤◌, Bool, true, false, List, [], ◌∷◌, ◌++◌, length, drop, map, slice_get, Option, None, Some, refl, sym, ◌∙◌, ap, subst, append_assoc, is_some}
use Rattle.std.specs.Prelude.{if◌then◌else◌, not, ◌&&◌, ◌||◌}
use Rattle.std.proofs.lemmas.List.{append-nil, drop_all}
use Rattle.th_tree.specs.declared.tokens.Token.{Token}
use Rattle.th_tree.specs.declared.tokens.TokenKind.{TokenKind}
use Rattle.th_tree.specs.declared.tokens.TokenKind.TheVariants as kinds
use Rattle.th_tree.specs.Spans.{bytes_of}
use Rattle.th_lex.specs.Canonical.{spelled, written}
use Rattle.th_head_texts.specs.Heads.{Origin, first_kind, interface_of_name, is_bare, is_for, is_name, is_semicolon, is_tied, private_words, token_words, up_to_end, words_of}
use Rattle.th_head_texts.specs.Spaced.{after_space, spaced}
use Rattle.th_head_texts.proofs.Spacing.{spaced_words}

at_front : (ts : List Token) (k : ℕ) (t : Token) → slice_get ts k ≡ Some t → drop k ts ≡ t ∷ drop (suc k) ts
at_front [] zero t e = cc
at_front [] (suc k) t e = cc
at_front (u ∷ us) zero t e = let h : u ≡ t = cc in ap (λ q. q ∷ us) h
at_front (u ∷ us) (suc k) t e = at_front us k t e

-- the token at a place, before what stands after it
pub at_place : (ts : List Token) (k : ℕ) (t : Token) → slice_get ts k ≡ Some t → drop k ts ≡ t ∷ drop (k + 1) ts
at_place ts k t e = at_front ts k t e ∙ ap (λ n. t ∷ drop n ts) (sym (add-one k))

-- no token is left
none_left : (ts : List Token) (k : ℕ) → slice_get ts k ≡ None → drop k ts ≡ []
none_left [] zero e = refl
none_left [] (suc k) e = refl
none_left (u ∷ us) zero e = cc
none_left (u ∷ us) (suc k) e = none_left us k e

pub first_at : (ts : List Token) (k : ℕ) (t : Token) → slice_get ts k ≡ Some t → Some t.kind ≡ first_kind (drop k ts)
first_at ts k t e = sym (ap first_kind (at_place ts k t e))

pub none_at : (ts : List Token) (k : ℕ) → slice_get ts k ≡ None → None ≡ first_kind (drop k ts)
none_at ts k e = sym (ap first_kind (none_left ts k e))

-- what follows a token that is not `;` begins as the tokens do
first_of_rest : (us : List Token) → first_kind (up_to_end us) ≡ first_kind us
first_of_rest [] = refl
first_of_rest (u ∷ us) = refl

-- a `;` is no name
end_no_name : (k : TokenKind) → is_semicolon k ≡ true → is_name k ≡ false
end_no_name kinds.Name e = cc
end_no_name (kinds.Word w) e = refl
end_no_name (kinds.Number n) e = refl
end_no_name (kinds.Symbol s) e = refl
end_no_name kinds.Text e = refl

end_no_bare : (before after : Option TokenKind) (k : TokenKind) → is_semicolon k ≡ true → is_bare before k after ≡ false
end_no_bare before after k e = ap (λ q. q && not (is_tied before) && not (is_tied after)) (end_no_name k e)

module _ (text : List ℕ) (ts : List Token) (k : ℕ) (t : Token) (at : slice_get ts k ≡ Some t) (now new whole : List ℕ) (begun : Bool) where
  -- one more word, of those that are left
  one_more : (w : List ℕ) (ws : List (List ℕ)) → now ++ spaced begun (w ∷ ws) ≡ whole → new ≡ now ++ after_space begun w → new ++ spaced true ws ≡ whole
  one_more w ws h e = ap (λ q. q ++ spaced true ws) e ∙ append_assoc now (after_space begun w) (spaced true ws) ∙ h

  module _ (bytes : List ℕ) (is : bytes ≡ bytes_of text t) (e : new ≡ now ++ after_space begun (written t.kind bytes))
      (h : now ++ spaced begun (map (spelled text) (up_to_end (drop k ts))) ≡ whole) where
    spelled_one : new ≡ now ++ after_space begun (spelled text t)
    spelled_one = e ∙ ap (λ q. now ++ after_space begun (written t.kind q)) is

    here : now ++ spaced begun (map (spelled text) (up_to_end (t ∷ drop (k + 1) ts))) ≡ whole
    here = subst (λ (q : List Token). now ++ spaced begun (map (spelled text) (up_to_end q)) ≡ whole) (at_place ts k t at) h

    -- a further token is written
    pub spelled_more : is_semicolon t.kind ≡ false → new ++ spaced true (map (spelled text) (up_to_end (drop (k + 1) ts))) ≡ whole
    spelled_more goes_on =
        one_more (spelled text t) (map (spelled text) (up_to_end (drop (k + 1) ts))) (subst (λ b. now ++ spaced begun (spelled text t ∷ map (spelled text) (if b then [] else up_to_end (drop (k + 1) ts))) ≡ whole) goes_on here) spelled_one

    -- the last token is written
    pub spelled_last : is_semicolon t.kind ≡ true → new ≡ whole
    spelled_last ends =
        sym (append-nil new) ∙ one_more (spelled text t) [] (subst (λ b. now ++ spaced begun (spelled text t ∷ map (spelled text) (if b then [] else up_to_end (drop (k + 1) ts))) ≡ whole) ends here) spelled_one

-- no token is left to write
pub spelled_all : (text : List ℕ) (ts : List Token) (k : ℕ) (now whole : List ℕ) (begun : Bool) → length ts ≤ k
    → now ++ spaced begun (map (spelled text) (up_to_end (drop k ts))) ≡ whole → now ≡ whole
spelled_all text ts k now whole begun e h =
    sym (append-nil now) ∙ subst (λ (q : List Token). now ++ spaced begun (map (spelled text) (up_to_end q)) ≡ whole) (drop_all k ts e) h

-- the words of a private head from a token on
module _ (o : Origin) (text : List ℕ) (after_for : Bool) (before : Option TokenKind) (t : Token) (us : List Token) where
  abbrev words_by : Option TokenKind → List Token → List (List ℕ)
  words_by after rest = token_words o text after_for before t after ++ private_words o text (after_for || is_for t.kind) (Some t.kind) rest

  pub words_more : is_semicolon t.kind ≡ false → private_words o text after_for before (up_to_end (t ∷ us)) ≡ words_by (first_kind us) (up_to_end us)
  words_more goes_on =
      subst (λ b. private_words o text after_for before (t ∷ (if b then [] else up_to_end us)) ≡ words_by (first_kind us) (up_to_end us)) (sym goes_on)
      (ap (λ q. words_by q (up_to_end us)) (first_of_rest us))

  same_words : (a b : Option TokenKind) → is_semicolon t.kind ≡ true → token_words o text after_for before t a ≡ token_words o text after_for before t b
  same_words a b ends =
      ap (λ q. words_of o (after_for && q) (bytes_of text t) (spelled text t)) (end_no_bare before a t.kind ends ∙ sym (end_no_bare before b t.kind ends))

  pub words_last : is_semicolon t.kind ≡ true → private_words o text after_for before (up_to_end (t ∷ us)) ≡ words_by (first_kind us) []
  words_last ends =
      subst (λ b. private_words o text after_for before (t ∷ (if b then [] else up_to_end us)) ≡ words_by (first_kind us) []) (sym ends)
      (ap (λ q. q ++ []) (same_words None (first_kind us) ends))

module _ (o : Origin) (text : List ℕ) (ts : List Token) (k : ℕ) (t : Token) (at : slice_get ts k ≡ Some t) (now new whole bytes : List ℕ) (after_for : Bool)
    (before : Option TokenKind) (bare : Bool) (is : bytes ≡ bytes_of text t)
    (full : bare ≡ (after_for && is_bare before t.kind (first_kind (drop (k + 1) ts))))
    (e : new ≡ now ++ spaced (is_some before) (words_of o bare bytes (written t.kind bytes)))
    (h : now ++ spaced (is_some before) (private_words o text after_for before (up_to_end (drop k ts))) ≡ whole) where
  abbrev these : List (List ℕ)
  these = token_words o text after_for before t (first_kind (drop (k + 1) ts))

  these_written : new ≡ now ++ spaced (is_some before) these
  these_written =
      e ∙ ap (λ q. now ++ spaced (is_some before) (words_of o bare q (written t.kind q))) is
      ∙ ap (λ q. now ++ spaced (is_some before) (words_of o q (bytes_of text t) (spelled text t))) full

  extended : (ws : List (List ℕ)) → private_words o text after_for before (up_to_end (t ∷ drop (k + 1) ts)) ≡ these ++ ws → new ++ spaced true ws ≡ whole
  extended ws w =
      let one : spaced (is_some before) (these ++ ws) ≡ spaced (is_some before) these ++ spaced true ws =
      spaced_words (is_some before) (if after_for && is_bare before t.kind (first_kind (drop (k + 1) ts)) then interface_of_name o (bytes_of text t) else None) (spelled text t) ws in
      let at_t : now ++ spaced (is_some before) (private_words o text after_for before (up_to_end (t ∷ drop (k + 1) ts))) ≡ whole =
      subst (λ (q : List Token). now ++ spaced (is_some before) (private_words o text after_for before (up_to_end q)) ≡ whole) (at_place ts k t at) h in
      let all : now ++ spaced (is_some before) (these ++ ws) ≡ whole = sym (ap (λ q. now ++ spaced (is_some before) q) w) ∙ at_t in
      ap (λ q. q ++ spaced true ws) these_written ∙ append_assoc now (spaced (is_some before) these) (spaced true ws) ∙ sym (ap (λ q. now ++ q) one) ∙ all

  -- the words of a further token are written
  pub private_more : (next : Bool) → next ≡ (after_for || is_for t.kind) → is_semicolon t.kind ≡ false
      → new ++ spaced true (private_words o text next (Some t.kind) (up_to_end (drop (k + 1) ts))) ≡ whole
  private_more next n goes_on =
      ap (λ q. new ++ spaced true (private_words o text q (Some t.kind) (up_to_end (drop (k + 1) ts)))) n
      ∙ extended (private_words o text (after_for || is_for t.kind) (Some t.kind) (up_to_end (drop (k + 1) ts))) (words_more o text after_for before t (drop (k + 1) ts) goes_on)

  -- the words of the last token are written
  pub private_last : is_semicolon t.kind ≡ true → new ≡ whole
  private_last ends = sym (append-nil new) ∙ extended [] (words_last o text after_for before t (drop (k + 1) ts) ends)

-- no token is left to write
pub private_all : (o : Origin) (text : List ℕ) (ts : List Token) (k : ℕ) (now whole : List ℕ) (after_for : Bool) (before : Option TokenKind) → length ts ≤ k
    → now ++ spaced (is_some before) (private_words o text after_for before (up_to_end (drop k ts))) ≡ whole → now ≡ whole
private_all o text ts k now whole after_for before e h =
    sym (append-nil now) ∙ subst (λ (q : List Token). now ++ spaced (is_some before) (private_words o text after_for before (up_to_end q)) ≡ whole) (drop_all k ts e) h
