-- Symbols.
use Rattle.std.proofs.Common.{◌≡◌, ℕ, zero, suc, ◌≤◌, ◌<◌, Bool, true, false, if◌then◌else◌, nat_eq, List, [], ◌∷◌, ◌++◌, length, take, drop, slice_index, Option, Some, None, refl, sym, ◌∙◌, ap, subst, arith, inl, inr}
use Rattle.std.proofs.lemmas.Bool.{eqb-true}
use Rattle.std.specs.Str.{bytes_eq}
use Rattle.std.proofs.lemmas.Slice.Eq.{bytes_eq-Decides}
use Rattle.th_tree.specs.declared.tokens.Sym.{Sym}
use Rattle.th_tree.specs.declared.tokens.Sym.TheVariants.{OpenParen}
use Rattle.th_tree.specs.declared.tokens.TokenKind.{TokenKind}
use Rattle.th_tree.specs.declared.tokens.TokenKind.TheVariants.{Symbol}
use Rattle.th_tree.specs.Tokens.{is_letter, is_digit, is_blank, sign, all_symbols, written_as, symbol_of, symbol_kind, kind_of}
use Rattle.th_tree.specs.Cut.{TokenAt, Longest, BadByte}
use Rattle.th_lex.specs.ByLength.{symbols_of}
use Rattle.th_lex.proofs.ByLength.{symbol_by_length}
use Rattle.th_lex.proofs.Right.{longest_here, tail_of}
use Rattle.th_lex.proofs.Quotes.{gap_first, wide_first}

sign_lengths : (s : Sym) → (1 ≤ length (sign s)) × (length (sign s) ≤ 2)
sign_lengths OpenParen = (omega arith, omega arith)
sign_lengths _ = (omega arith, omega arith)

written_if : {A : Type 0} (spell : A → List ℕ) (bs : List ℕ) (x y : A) (o : Option A) (v : Bool) → bytes_eq bs (spell x) ≡ v → (o ≡ Some y → bs ≡ spell y) → (if v then Some x else o) ≡ Some y → bs ≡ spell y
written_if spell bs x y o true e h i = let z : x ≡ y = cc in (bytes_eq-Decides bs (spell x)).0 e ∙ ap spell z
written_if spell bs x y o false e h i = h i

pub written_is : {A : Type 0} (spell : A → List ℕ) (bs : List ℕ) (xs : List A) (y : A) → written_as spell xs bs ≡ Some y → bs ≡ spell y
written_is spell bs [] y e = absurd (cc)
written_is spell bs (x ∷ xs) y e = written_if spell bs x y (written_as spell xs bs) (bytes_eq bs (spell x)) refl (written_is spell bs xs y) e

pub symbol_is : (bs : List ℕ) (s : Sym) → symbol_of bs ≡ Some s → bs ≡ sign s
unfolding symbol_of
symbol_is bs s e = written_is sign bs all_symbols s e

pub some_symbol : (o : Option Sym) (j : TokenKind) → symbol_kind o ≡ Some j → (s : Sym) × (o ≡ Some s) × (Symbol s ≡ j)
some_symbol None j e = absurd (cc)
some_symbol (Some s) j e = (s, refl, cc)

-- a byte that begins no token of another kind, and no gap
pub record Other (b : ℕ) : Type 0 where
  pub no_blank : is_blank b ≡ false
  pub no_comment : b ≡ 35 → ⊥
  pub no_letter : is_letter b ≡ false
  pub no_digit : is_digit b ≡ false
  pub no_quote : b ≡ 34 → ⊥

not_eq : (a b : ℕ) (v : Bool) → nat_eq a b ≡ v → (a ≡ b → ⊥) → v ≡ false
not_eq a b true e h = absurd (h (eqb-true a b e))
not_eq a b false e h = refl

no_quote_eq : (b : ℕ) → Other b → nat_eq b 34 ≡ false
no_quote_eq b o = not_eq b 34 (nat_eq b 34) refl o.no_quote

-- a token there is a symbol
other_kind : (b : ℕ) (ds : List ℕ) (j : TokenKind) → Other b → kind_of (b ∷ ds) ≡ Some j → symbol_kind (symbol_of (b ∷ ds)) ≡ Some j
other_kind b ds j o h = let q = no_quote_eq b o in let l = o.no_letter in let d = o.no_digit in rw (l, d, q) at h

at_most_two : (b : ℕ) (ds : List ℕ) (j : TokenKind) → Other b → kind_of (b ∷ ds) ≡ Some j → length (b ∷ ds) ≤ 2
at_most_two b ds j o h =
    let s = some_symbol _ j (other_kind b ds j o h) in
    let e : length (b ∷ ds) ≡ length (sign s.0) = ap length (symbol_is (b ∷ ds) s.0 s.1) in
    let k = sign_lengths s.0 in omega (arith, k.1)

symbol_token : (b : ℕ) (ds more : List ℕ) (s : Sym) → Other b → symbol_of (b ∷ ds) ≡ Some s → TokenAt (b ∷ (ds ++ more)) (b ∷ ds) more (Symbol s)
symbol_token b ds more s o e = record { split = refl; is = (let q = no_quote_eq b o in rw (o.no_letter, o.no_digit, q, e) refl); ends = tt }

pub pair_at : (b c : ℕ) (bs : List ℕ) (s : Sym) → Other b → symbol_of (b ∷ c ∷ []) ≡ Some s → Longest (b ∷ c ∷ bs) (b ∷ c ∷ []) bs (Symbol s)
pair_at b c bs s o e = record {
  token = symbol_token b (c ∷ []) bs s o e;
  longest = λ cs rest j h.
      let t = tail_of b (c ∷ bs) cs rest j h in
      let z : length (b ∷ t.tail) ≤ 2 = at_most_two b t.tail j o t.kind in
      let w : length cs ≡ suc (length t.tail) = ap length t.is in omega arith;
}

-- where no two bytes are a symbol, a token has one byte
short : (b : ℕ) (bs tail rest : List ℕ) (j : TokenKind) → Other b → bs ≡ tail ++ rest → ((c : ℕ) (more : List ℕ) → bs ≡ c ∷ more → symbol_of (b ∷ c ∷ []) ≡ None) → kind_of (b ∷ tail) ≡ Some j → tail ≡ []
short b bs [] rest j o e h k = refl
short b bs (c ∷ []) rest j o e h k = let s = some_symbol (symbol_of (b ∷ c ∷ [])) j (other_kind b (c ∷ []) j o k) in let n : None ≡ Some s.0 = sym (h c rest e) ∙ s.1 in absurd (cc)
short b bs (c ∷ d ∷ ds) rest j o e h k = let l : length (b ∷ c ∷ d ∷ ds) ≤ 2 = at_most_two b (c ∷ d ∷ ds) j o k in absurd (omega arith)

pub single_at : (b : ℕ) (bs : List ℕ) (s : Sym) → Other b → ((c : ℕ) (more : List ℕ) → bs ≡ c ∷ more → symbol_of (b ∷ c ∷ []) ≡ None) → symbol_of (b ∷ []) ≡ Some s → Longest (b ∷ bs) (b ∷ []) bs (Symbol s)
single_at b bs s o h e = record {
  token = symbol_token b [] bs s o e;
  longest = λ cs rest j k.
      let t = tail_of b bs cs rest j k in
      let z : t.tail ≡ [] = short b bs t.tail rest j o t.split h t.kind in
      let w : cs ≡ b ∷ [] = t.is ∙ ap (λ x. b ∷ x) z in
      let y : length cs ≡ 1 = ap length w in omega arith;
}

pub none_at : (b : ℕ) (bs : List ℕ) → Other b → ((c : ℕ) (more : List ℕ) → bs ≡ c ∷ more → symbol_of (b ∷ c ∷ []) ≡ None) → symbol_of (b ∷ []) ≡ None → BadByte (b ∷ bs)
none_at b bs o h e = record {
  some = omega arith;
  no_gap = λ more n g. elim (gap_first (b ∷ bs) more n g) [ inl x ↦ (let y = o.no_blank in cc (sym x ∙ y)) | inr x ↦ o.no_comment x ];
  no_token = λ cs rest j k.
      let t = tail_of b bs cs rest j k in
      let z : t.tail ≡ [] = short b bs t.tail rest j o t.split h t.kind in
      let i : kind_of (b ∷ []) ≡ Some j = subst (λ x. kind_of (b ∷ x) ≡ Some j) z t.kind in
      let s = some_symbol (symbol_of (b ∷ [])) j (other_kind b [] j o i) in let n : None ≡ Some s.0 = sym e ∙ s.1 in absurd (cc);
  no_number = λ w. (let y = o.no_digit in cc (sym y ∙ wide_first (b ∷ bs) w));
}

-- the same at the front of a text
pub pair_stands : (text : List ℕ) (s : Sym) → 1 < length text → Other (slice_index text 0) → Some s ≡ written_as sign (symbols_of 2) (slice_index text 0 ∷ slice_index text 1 ∷ [])
    → (2 ≤ length text) × Longest text (take 2 text) (drop 2 text) (Symbol s)
pair_stands [] s l o e = absurd (omega arith)
pair_stands (b ∷ []) s l o e = absurd (omega arith)
pair_stands (b ∷ c ∷ bs) s l o e = longest_here (b ∷ c ∷ bs) (b ∷ c ∷ []) bs 2 (Symbol s) (omega arith) (pair_at b c bs s o (symbol_by_length 2 (b ∷ c ∷ []) (omega arith) ∙ sym e))

-- the second byte, where there is one, makes no symbol with the first
pub no_pair : (text : List ℕ) (b : ℕ) (bs : List ℕ) → text ≡ b ∷ bs → (1 < length text → None ≡ written_as sign (symbols_of 2) (slice_index text 0 ∷ slice_index text 1 ∷ []))
    → (c : ℕ) (more : List ℕ) → bs ≡ c ∷ more → symbol_of (b ∷ c ∷ []) ≡ None
no_pair text b bs e h c more s =
    let w : text ≡ b ∷ c ∷ more = e ∙ ap (λ x. b ∷ x) s in
    let l : length text ≡ length (b ∷ c ∷ more) = ap length w in
    let i : None ≡ written_as sign (symbols_of 2) (slice_index text 0 ∷ slice_index text 1 ∷ []) = h (omega arith) in
    symbol_by_length 2 (b ∷ c ∷ []) (omega arith) ∙ sym (subst (λ x. None ≡ written_as sign (symbols_of 2) (slice_index x 0 ∷ slice_index x 1 ∷ [])) w i)

pub single_stands : (text : List ℕ) (s : Sym) → 0 < length text → Other (slice_index text 0) → (1 < length text → None ≡ written_as sign (symbols_of 2) (slice_index text 0 ∷ slice_index text 1 ∷ []))
    → Some s ≡ written_as sign (symbols_of 1) (slice_index text 0 ∷ []) → (1 ≤ length text) × Longest text (take 1 text) (drop 1 text) (Symbol s)
single_stands [] s l o h e = absurd (omega arith)
single_stands (b ∷ bs) s l o h e =
    longest_here (b ∷ bs) (b ∷ []) bs 1 (Symbol s) (omega arith) (single_at b bs s o (no_pair (b ∷ bs) b bs refl h) (symbol_by_length 1 (b ∷ []) (omega arith) ∙ sym e))

pub symbol_bad : (text : List ℕ) → 0 < length text → Other (slice_index text 0) → (1 < length text → None ≡ written_as sign (symbols_of 2) (slice_index text 0 ∷ slice_index text 1 ∷ []))
    → None ≡ written_as sign (symbols_of 1) (slice_index text 0 ∷ []) → BadByte text
symbol_bad [] l o h e = absurd (omega arith)
symbol_bad (b ∷ bs) l o h e = none_at b bs o (no_pair (b ∷ bs) b bs refl h) (symbol_by_length 1 (b ∷ []) (omega arith) ∙ sym e)

pub is_long : (n : ℕ) (s : Sym) → (n ≤ 1 → Some s ≡ None) → 1 < n
is_long zero s h = let e : Some s ≡ None = h (omega arith) in absurd (cc)
is_long (suc zero) s h = let e : Some s ≡ None = h (omega arith) in absurd (cc)
is_long (suc (suc n)) s h = omega arith
