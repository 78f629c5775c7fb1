-- What is written as some bytes is among those of their length.
use Rattle.std.proofs.Common.{◌≡◌, ◌≢◌, ℕ, ◌≤◌, Bool, true, false, if◌then◌else◌, nat_eq, List, [], ◌∷◌, length, Option, Some, None, refl, sym, ◌∙◌, ap, arith}
use Rattle.std.proofs.lemmas.Bool.{eq-eqb}
use Rattle.std.specs.Str.{bytes_eq}
use Rattle.std.proofs.lemmas.Slice.Eq.{bytes_eq-Decides}
use Rattle.th_tree.specs.declared.tokens.Reserved.{Reserved}
use Rattle.th_tree.specs.declared.tokens.Reserved.TheVariants.{KeyModule}
use Rattle.th_tree.specs.Tokens.{spelling, sign, all_words, all_symbols, written_as, reserved_of, symbol_of}
use Rattle.th_lex.specs.ByLength.{of_length, words_of, symbols_of}

module _ {A : Type 0} (spell : A → List ℕ) where
  one_length : (n : ℕ) (bs : List ℕ) (x : A) (xs ys : List A) (u v : Bool) → bytes_eq bs (spell x) ≡ u → nat_eq (length (spell x)) n ≡ v → length bs ≡ n
      → written_as spell xs bs ≡ written_as spell ys bs
      → (if u then Some x else written_as spell xs bs) ≡ written_as spell (if v then x ∷ ys else ys) bs
  one_length n bs x xs ys true true e h l i = rw e refl
  one_length n bs x xs ys true false e h l i =
      let s : bs ≡ spell x = (bytes_eq-Decides bs (spell x)).0 e in
      let k : nat_eq (length (spell x)) n ≡ true = eq-eqb _ _ (sym (ap length s) ∙ l) in absurd (cc)
  one_length n bs x xs ys false true e h l i = rw e i
  one_length n bs x xs ys false false e h l i = i

  pub by_length : (n : ℕ) (bs : List ℕ) (xs : List A) → length bs ≡ n → written_as spell xs bs ≡ written_as spell (of_length spell n xs) bs
  by_length n bs [] l = refl
  by_length n bs (x ∷ xs) l = one_length n bs x xs (of_length spell n xs) (bytes_eq bs (spell x)) (nat_eq (length (spell x)) n) refl refl l (by_length n bs xs l)

  not_one : (bs : List ℕ) (x : A) (u : Bool) (o : Option A) → bytes_eq bs (spell x) ≡ u → (bs ≡ spell x → ⊥) → o ≡ None → (if u then Some x else o) ≡ None
  not_one bs x true o e h i = absurd (h ((bytes_eq-Decides bs (spell x)).0 e))
  not_one bs x false o e h i = i

  pub not_written : (bs : List ℕ) (xs : List A) → ((x : A) → bs ≡ spell x → ⊥) → written_as spell xs bs ≡ None
  not_written bs [] h = refl
  not_written bs (x ∷ xs) h = not_one bs x (bytes_eq bs (spell x)) _ refl (h x) (not_written bs xs h)

pub reserved_by_length : (n : ℕ) (bs : List ℕ) → length bs ≡ n → reserved_of bs ≡ written_as spelling (words_of n) bs
unfolding reserved_of
reserved_by_length n bs l = by_length spelling n bs all_words l

pub symbol_by_length : (n : ℕ) (bs : List ℕ) → length bs ≡ n → symbol_of bs ≡ written_as sign (symbols_of n) bs
unfolding symbol_of
symbol_by_length n bs l = by_length sign n bs all_symbols l

pub word_lengths : (w : Reserved) → (2 ≤ length (spelling w)) × (length (spelling w) ≤ 12)
word_lengths KeyModule = (omega arith, omega arith)
word_lengths _ = (omega arith, omega arith)

pub no_word : (bs : List ℕ) → ((w : Reserved) → length bs ≢ length (spelling w)) → reserved_of bs ≡ None
unfolding reserved_of
no_word bs h = not_written spelling bs all_words (λ w e. h w (ap length e))
