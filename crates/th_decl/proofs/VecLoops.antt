-- The turns of the code's loops that append to vectors.
use Rattle.std.proofs.Common.{◌≡◌, ℕ, ◌<◌, ◌+◌, ◌-◌, Bool, true, false, Option, List, [], ◌∷◌, ◌++◌, map, refl, sym, ◌∙◌, ap, append_assoc, append-nil}
use Rattle.th_tree.specs.declared.tokens.Sym.TheVariants.{Comma}
use Rattle.th_tree.specs.declared.lexeme.Mark.{Mark}
use Rattle.th_tree.specs.declared.lexeme.Mark.TheVariants.{Symbol}
use Rattle.th_tree.specs.declared.lexeme.Lexeme.{Lexeme}
use Rattle.th_syntax.specs.declared.step.Stop.{Stop}
use Rattle.th_syntax.specs.Read.{Res, Got, P, peek, is_mark, mark, listed, many, ret}
use Rattle.th_syntax.specs.Gives.{Fails}
use Rattle.th_syntax.specs.Lists.{with_back}
use Rattle.th_syntax.proofs.Loops.{one_item, last_item, end_item, bad_item, one_more, no_more, all_more, bad_more}

pub map_push : {T A : Type 0} (view : T → A) (old new : List T) (one : T) → new ≡ old ++ one ∷ [] → map view new ≡ map view old ++ view one ∷ []
map_push {T = T} view old new one e = ap (λ l. map view l) e ∙ go old where
  go : (l : List T) → map view (l ++ one ∷ []) ≡ map view l ++ view one ∷ []
  go [] = refl
  go (x ∷ l) = ap (λ y. view x ∷ y) (go l)

module _ {A : Type 0} (item : ℕ → P A) where
  abbrev Left : ℕ → ℕ → List Lexeme → List A → Res (List A)
  Left k n ts b = with_back (λ a b. a ++ b) b (listed (Symbol Comma) item (λ a b. a ∷ b) [] k n ts)

  pub vec_item : (m i n p : ℕ) (b nb : List A) (a : A) (ts after next : List Lexeme) (total : Res (List A)) → nb ≡ b ++ a ∷ [] → i < m → item n ts ≡ Got a after → is_mark (Symbol Comma) (peek after) ≡ true → mark (Symbol Comma) after ≡ Got p next
      → total ≡ Left (m - i) n ts b → total ≡ Left (m - (i + 1)) n next nb
  vec_item m i n p b nb a ts after next total q l e j k d =
      one_item (Symbol Comma) item (λ a b. a ∷ b) [] (λ a b. a ++ b) (λ b a. b ++ a ∷ []) (λ a b done. append_assoc b (a ∷ []) done) m i n p b a ts after next total l e j k d ∙ ap (λ y. Left (m - (i + 1)) n next y) (sym q)

  pub vec_last : (m i n : ℕ) (b nb : List A) (a : A) (ts after : List Lexeme) (total : Res (List A)) → nb ≡ b ++ a ∷ [] → i < m → item n ts ≡ Got a after → is_mark (Symbol Comma) (peek after) ≡ false → total ≡ Left (m - i) n ts b → total ≡ Got nb after
  vec_last m i n b nb a ts after total q l e j d =
      last_item (Symbol Comma) item (λ a b. a ∷ b) [] (λ a b. a ++ b) (λ b a. b ++ a ∷ []) (λ a b done. append_assoc b (a ∷ []) done) m i n b a ts after total l e j d ∙ ap (λ y. Got y after) (append-nil (b ++ a ∷ []) ∙ sym q)

  pub vec_end : (m i n : ℕ) (b nb : List A) (a : A) (ts after : List Lexeme) (total : Res (List A)) → nb ≡ b ++ a ∷ [] → i ≡ m → item n ts ≡ Got a after → total ≡ Left (m - i) n ts b → total ≡ Got nb after
  vec_end m i n b nb a ts after total q l e d =
      end_item (Symbol Comma) item (λ a b. a ∷ b) [] (λ a b. a ++ b) (λ b a. b ++ a ∷ []) (λ a b done. append_assoc b (a ∷ []) done) m i n b a ts after total l e d ∙ ap (λ y. Got y after) (append-nil (b ++ a ∷ []) ∙ sym q)

  pub vec_bad : (k n : ℕ) (b : List A) (ts : List Lexeme) (total : Res (List A)) (s : Stop) → Fails s (item n ts) → total ≡ Left k n ts b → Fails s total
  vec_bad = bad_item (Symbol Comma) item (λ a b. a ∷ b) [] (λ a b. a ++ b) (λ b a. b ++ a ∷ []) (λ a b done. append_assoc b (a ∷ []) done)

module _ {A : Type 0} (test : Option Mark → Bool) (item : ℕ → P A) where
  abbrev Rest : ℕ → ℕ → List Lexeme → List A → Res (List A)
  Rest k n ts b = with_back (λ a b. a ++ b) b (many test item (λ a b. a ∷ b) (ret []) k n ts)

  pub vec_more : (m i n : ℕ) (b nb : List A) (a : A) (ts after : List Lexeme) (total : Res (List A)) → nb ≡ b ++ a ∷ [] → i < m → test (peek ts) ≡ true → item n ts ≡ Got a after → total ≡ Rest (m - i) n ts b → total ≡ Rest (m - (i + 1)) n after nb
  vec_more m i n b nb a ts after total q l j e d =
      one_more test item (λ a b. a ∷ b) (ret []) (λ a b. a ++ b) (λ b a. b ++ a ∷ []) (λ a b done. append_assoc b (a ∷ []) done) m i n b a ts after total l j e d ∙ ap (λ y. Rest (m - (i + 1)) n after y) (sym q)

  pub vec_stop : (k n : ℕ) (b : List A) (ts : List Lexeme) (total : Res (List A)) → test (peek ts) ≡ false → total ≡ Rest k n ts b → total ≡ Got b ts
  vec_stop k n b ts total j d =
      no_more test item (λ a b. a ∷ b) (ret []) (λ a b. a ++ b) (λ b a. b ++ a ∷ []) (λ a b done. append_assoc b (a ∷ []) done) k n b ts total j d ∙ ap (λ y. Got y ts) (append-nil b)

  pub vec_all : (m i n : ℕ) (b : List A) (ts : List Lexeme) (total : Res (List A)) → i ≡ m → total ≡ Rest (m - i) n ts b → total ≡ Got b ts
  vec_all m i n b ts total l d =
      all_more test item (λ a b. a ∷ b) (ret []) (λ a b. a ++ b) (λ b a. b ++ a ∷ []) (λ a b done. append_assoc b (a ∷ []) done) m i n b ts total l d ∙ ap (λ y. Got y ts) (append-nil b)

  pub vec_wrong : (m i n : ℕ) (b : List A) (ts : List Lexeme) (total : Res (List A)) (s : Stop) → i < m → test (peek ts) ≡ true → Fails s (item n ts) → total ≡ Rest (m - i) n ts b → Fails s total
  vec_wrong = bad_more test item (λ a b. a ∷ b) (ret []) (λ a b. a ++ b) (λ b a. b ++ a ∷ []) (λ a b done. append_assoc b (a ∷ []) done)
