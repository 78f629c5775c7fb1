-- A token before a space, or at the end, is the longest there.
use Rattle.std.proofs.Common.{◌≡◌, ℕ, ◌≤◌, ◌<◌, Bool, true, false, if◌then◌else◌, nat_eq, nat_le, List, [], ◌∷◌, ◌++◌, length, Some, None, refl, sym, ◌∙◌, ap, subst, arith, length-append, leb-false}
use Rattle.std.proofs.lemmas.Bool.{leb-true}
use Rattle.std.proofs.lemmas.List.{append-nil}
use Rattle.th_tree.specs.declared.tokens.Sym.{Sym}
use Rattle.th_tree.specs.declared.tokens.Sym.TheVariants.{OpenParen}
use Rattle.th_tree.specs.declared.tokens.TokenKind.{TokenKind}
use Rattle.th_tree.specs.declared.tokens.TokenKind.TheVariants.{Number, Text}
use Rattle.th_tree.specs.Tokens.{is_letter, is_digit, is_inner, all, closes, sign, symbol_of, symbol_kind, kind_of}
use Rattle.th_tree.specs.Cut.{MayFollow, TokenAt, Longest}
use Rattle.th_lex.specs.Stands.{quoted}
use Rattle.th_lex.proofs.Fronts.{and_left, and_right}
use Rattle.th_lex.proofs.Right.{chosen_some, letter_kind, digit_kind}
use Rattle.th_lex.proofs.Quotes.{closes_quoted}
use Rattle.th_lex.proofs.Signs.{some_symbol, symbol_is}

not_all : (p : ℕ → Bool) (bs ds : List ℕ) → p 32 ≡ false → all p (bs ++ 32 ∷ ds) ≡ true → ⊥
not_all p [] ds n h = let y : p 32 ≡ true = and_left (p 32) (all p ds) h in cc (sym n ∙ y)
not_all p (b ∷ bs) ds n h = not_all p bs ds n (and_right (p b) (all p (bs ++ 32 ∷ ds)) h)

-- a byte other than a space
abbrev solid : ℕ → Bool
solid b = if nat_eq b 32 then false else true

sign_solid : (s : Sym) → all solid (sign s) ≡ true
sign_solid OpenParen = refl
sign_solid _ = refl

not_closed : (bs ds : List ℕ) → closes bs ≡ true → closes (bs ++ 32 ∷ ds) ≡ true → ⊥
not_closed bs ds g h =
    let m : quoted (bs ++ 32 ∷ ds) ≡ Some (length bs) = closes_quoted bs (32 ∷ ds) g in
    let n : quoted (bs ++ 32 ∷ ds) ≡ Some (length (bs ++ 32 ∷ ds)) = subst (λ q. quoted q ≡ Some (length (bs ++ 32 ∷ ds))) (append-nil (bs ++ 32 ∷ ds)) (closes_quoted (bs ++ 32 ∷ ds) [] h) in
    let e : Some (length bs) ≡ Some (length (bs ++ 32 ∷ ds)) = sym m ∙ n in
    let l : length bs ≡ length (bs ++ 32 ∷ ds) = cc in omega (arith, length-append bs (32 ∷ ds))

no_sign : (bs ds : List ℕ) (j : TokenKind) → symbol_kind (symbol_of (bs ++ 32 ∷ ds)) ≡ Some j → ⊥
no_sign bs ds j h =
    let s = some_symbol (symbol_of (bs ++ 32 ∷ ds)) j h in
    let e : bs ++ 32 ∷ ds ≡ sign s.0 = symbol_is (bs ++ 32 ∷ ds) s.0 s.1 in
    not_all solid bs ds refl (subst (λ q. all solid q ≡ true) (sym e) (sign_solid s.0))

space_by : (b : ℕ) (bs ds : List ℕ) (k j : TokenKind) (l d q : Bool) → is_letter b ≡ l → is_digit b ≡ d → nat_eq b 34 ≡ q
    → kind_of (b ∷ bs) ≡ Some k → kind_of (b ∷ (bs ++ 32 ∷ ds)) ≡ Some j → ⊥
space_by b bs ds k j true d q x y z g h = not_all is_inner bs ds refl (letter_kind b (bs ++ 32 ∷ ds) j x h)
space_by b bs ds k j false true q x y z g h = not_all is_digit bs ds refl (and_left (all is_digit (bs ++ 32 ∷ ds)) _ (digit_kind b (bs ++ 32 ∷ ds) j x y h).0)
space_by b bs ds k j false false true x y z g h =
    let g1 : (if closes bs then Some Text else None) ≡ Some k = rw (x, y, z) at g in
    let h1 : (if closes (bs ++ 32 ∷ ds) then Some Text else None) ≡ Some j = rw (x, y, z) at h in
    not_closed bs ds (chosen_some (closes bs) Text k g1).0 (chosen_some (closes (bs ++ 32 ∷ ds)) Text j h1).0
space_by b bs ds k j false false false x y z g h =
    let h1 : symbol_kind (symbol_of (b ∷ (bs ++ 32 ∷ ds))) ≡ Some j = rw (x, y, z) at h in no_sign (b ∷ bs) ds j h1

-- no token goes on over a space after a token
no_space : (bs ds : List ℕ) (k j : TokenKind) → kind_of bs ≡ Some k → kind_of (bs ++ 32 ∷ ds) ≡ Some j → ⊥
no_space [] ds k j g h = absurd (cc)
no_space (b ∷ bs) ds k j g h = space_by b bs ds k j (is_letter b) (is_digit b) (nat_eq b 34) refl refl refl g h

-- a longer front of the same bytes
record Longer (bs rs cs rest : List ℕ) : Type 0 where
  byte : ℕ
  more : List ℕ
  is : cs ≡ bs ++ byte ∷ more
  left : rs ≡ byte ∷ (more ++ rest)

longer : (bs rs cs rest : List ℕ) → bs ++ rs ≡ cs ++ rest → length bs < length cs → Longer bs rs cs rest
longer [] rs [] rest e l = absurd (omega arith)
longer [] rs (c ∷ cs) rest e l = record { byte = c; more = cs; is = refl; left = e }
longer (b ∷ bs) rs [] rest e l = absurd (omega arith)
longer (b ∷ bs) rs (c ∷ cs) rest e l =
    let h : b ≡ c = cc in
    let t : bs ++ rs ≡ cs ++ rest = cc in
    let w = longer bs rs cs rest t (omega arith) in
    let i : cs ≡ bs ++ w.byte ∷ w.more = w.is in
    record { byte = w.byte; more = w.more; is = ap (λ q. c ∷ q) i ∙ ap (λ q. q ∷ (bs ++ w.byte ∷ w.more)) (sym h); left = w.left }

-- the text is empty, or begins with a space
abbrev pub Apart : List ℕ → Type 0
Apart rs = (c : ℕ) (more : List ℕ) → rs ≡ c ∷ more → c ≡ 32

follows : (k : TokenKind) (rs : List ℕ) → Apart rs → MayFollow k rs
follows (Number n) [] a = refl
follows (Number n) (c ∷ more) a = let e : c ≡ 32 = a c more refl in rw e refl
follows _ rs a = tt

within : (bs rs cs rest : List ℕ) (k j : TokenKind) (v : Bool) → kind_of bs ≡ Some k → Apart rs → TokenAt (bs ++ rs) cs rest j → nat_le (length cs) (length bs) ≡ v → length cs ≤ length bs
within bs rs cs rest k j true g a t e = leb-true (length cs) (length bs) e
within bs rs cs rest k j false g a t e =
    let w = longer bs rs cs rest t.split (leb-false (length cs) (length bs) e) in
    let c : w.byte ≡ 32 = a w.byte (w.more ++ rest) w.left in
    let i : cs ≡ bs ++ 32 ∷ w.more = w.is ∙ ap (λ q. bs ++ q ∷ w.more) c in
    absurd (no_space bs w.more k j g (subst (λ q. kind_of q ≡ Some j) i t.is))

pub alone : (bs rs : List ℕ) (k : TokenKind) → kind_of bs ≡ Some k → Apart rs → Longest (bs ++ rs) bs rs k
alone bs rs k g a = record {
  token = record { split = refl; is = g; ends = follows k rs a };
  longest = λ cs rest j t. within bs rs cs rest k j (nat_le (length cs) (length bs)) g a t refl;
}
