-- The canonical text grows by one token.
use Rattle.std.proofs.Common.{◌≡◌, ℕ, zero, suc, ◌+◌, ◌<◌, List, [], ◌∷◌, ◌++◌, ◌≤◌, length, take, get_or, slice_get, Some, map, refl, sym, ◌∙◌, ap, arith, append_assoc}
use Rattle.std.proofs.lemmas.List.{map-append, take_more}
use Rattle.std.specs.List.{join_with_byte}
use Rattle.th_tree.specs.declared.tokens.Token.{Token}
use Rattle.th_tree.specs.Spans.{bytes_of}
use Rattle.th_lex.specs.Canonical.{written, spelled, canonical}

joined : (c : ℕ) (y : List ℕ) (x : List ℕ) (xs : List (List ℕ)) → join_with_byte c ((x ∷ xs) ++ y ∷ []) ≡ (join_with_byte c (x ∷ xs) ++ c ∷ []) ++ y
joined c y x [] = sym (append_assoc x (c ∷ []) y)
joined c y x (z ∷ zs) =
    let i : join_with_byte c ((z ∷ zs) ++ y ∷ []) ≡ (join_with_byte c (z ∷ zs) ++ c ∷ []) ++ y = joined c y z zs in
    ap (λ q. x ++ (c ∷ q)) i ∙ sym (append_assoc x (c ∷ (join_with_byte c (z ∷ zs) ++ c ∷ [])) y) ∙ ap (λ q. q ++ y) (sym (append_assoc x (c ∷ join_with_byte c (z ∷ zs)) (c ∷ [])))

after_some : (c : ℕ) (y : List ℕ) (xs : List (List ℕ)) → 0 < length xs → join_with_byte c (xs ++ y ∷ []) ≡ (join_with_byte c xs ++ c ∷ []) ++ y
after_some c y [] s = absurd (omega arith)
after_some c y (x ∷ xs) s = joined c y x xs

module _ (text bytes now new : List ℕ) (ts : List Token) (k : ℕ) (d : Token) where
  at_place : (us : List Token) (j : ℕ) → j < length us → slice_get us j ≡ Some (get_or us j d)
  at_place [] j l = absurd (omega arith)
  at_place (u ∷ us) zero l = refl
  at_place (u ∷ us) (suc j) l = at_place us j (omega arith)

  one_more : k < length ts → map (spelled text) (take (k + 1) ts) ≡ map (spelled text) (take k ts) ++ spelled text (get_or ts k d) ∷ []
  one_more l = ap (map (spelled text)) (take_more ts k d l) ∙ map-append (spelled text) (take k ts) (get_or ts k d ∷ [])

  appended : k < length ts → ((t : Token) → slice_get ts k ≡ Some t → bytes ≡ bytes_of text t) → new ≡ now ++ written (get_or ts k d).kind bytes → new ≡ now ++ spelled text (get_or ts k d)
  appended l b e = e ∙ ap (λ q. now ++ written (get_or ts k d).kind q) (b (get_or ts k d) (at_place ts k l))

  -- the first token stands alone
  pub first_token : k < length ts → ((t : Token) → slice_get ts k ≡ Some t → bytes ≡ bytes_of text t) → new ≡ now ++ written (get_or ts k d).kind bytes
      → k ≤ 0 → now ≡ canonical text (take k ts) → new ≡ canonical text (take (k + 1) ts)
  first_token l b e z h =
      let zero_k : k ≡ 0 = omega arith in
      let none : take k ts ≡ [] = ap (λ n. take n ts) zero_k in
      let none_now : now ≡ [] = h ∙ ap (canonical text) none in
      let one : map (spelled text) (take (k + 1) ts) ≡ spelled text (get_or ts k d) ∷ [] = one_more l ∙ ap (λ q. map (spelled text) q ++ spelled text (get_or ts k d) ∷ []) none in
      appended l b e ∙ ap (λ q. q ++ spelled text (get_or ts k d)) none_now ∙ sym (ap (join_with_byte 32) one)

  some_taken : (us : List Token) (j : ℕ) → j < length us → 0 < j → 0 < length (map (spelled text) (take j us))
  some_taken [] j l s = absurd (omega arith)
  some_taken (u ∷ us) zero l s = absurd (omega arith)
  some_taken (u ∷ us) (suc j) l s = omega arith

  -- a further token has a space before it
  pub next_token : k < length ts → ((t : Token) → slice_get ts k ≡ Some t → bytes ≡ bytes_of text t) → new ≡ now ++ written (get_or ts k d).kind bytes
      → 0 < k → now ≡ canonical text (take k ts) ++ 32 ∷ [] → new ≡ canonical text (take (k + 1) ts)
  next_token l b e s h =
      let more : canonical text (take (k + 1) ts) ≡ (canonical text (take k ts) ++ 32 ∷ []) ++ spelled text (get_or ts k d) =
      ap (join_with_byte 32) (one_more l) ∙ after_some 32 (spelled text (get_or ts k d)) (map (spelled text) (take k ts)) (some_taken ts k l s) in
      appended l b e ∙ ap (λ q. q ++ spelled text (get_or ts k d)) h ∙ sym more
