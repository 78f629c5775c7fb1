-- A number in decimal is a token of its kind.
use Rattle.std.proofs.Common.{rules, ◌≡◌, ℕ, ◌^◌, ◌≤◌, ◌<◌, Bool, true, false, if◌then◌else◌, nat_eq, nat_le, List, [], ◌∷◌, length, Option, Some, None, refl, ap, arith}
use Rattle.std.proofs.lemmas.Bool.{leb-true, le-leb}
use Rattle.std.proofs.lemmas.Fmt.{digits_decimal, digits_value-decimal, decimal_nonempty}
use Rattle.std.proofs.lemmas.Str.Parse.{IsNumeralModel, numerals_by_fold}
use Rattle.std.specs.Fmt.{decimal}
use Rattle.th_tree.specs.declared.tokens.Reserved.{Reserved}
use Rattle.th_tree.specs.declared.tokens.TokenKind.{TokenKind}
use Rattle.th_tree.specs.declared.tokens.TokenKind.TheVariants.{Number, Text}
use Rattle.th_tree.specs.Tokens.{is_letter, is_digit, is_inner, all, closes, value, word_kind, reserved_of, symbol_of, symbol_kind, kind_of}
use Rattle.th_lex.specs.Canonical.{written}
use Rattle.th_lex.proofs.Fronts.{and_left, and_right}
use Rattle.th_lex.proofs.Right.{chosen_some, digit_kind}
use Rattle.th_lex.proofs.Gaps.{digit_no_letter}
use Rattle.th_lex.proofs.Signs.{some_symbol}

own : IsNumeralModel (λ ds. all is_digit ds ≡ true) (value 0)
own = numerals_by_fold _ (search rules) value (search rules)

numeral_kind : (ds : List ℕ) (n : ℕ) → 0 < length ds → all is_digit ds ≡ true → value 0 ds ≡ n → n ≤ 2147483647 → kind_of ds ≡ Some (Number n)
numeral_kind [] n s a v l = absurd (omega arith)
numeral_kind (d ∷ ds) n s a v l =
    let first : is_digit d ≡ true = and_left (is_digit d) (all is_digit ds) a in
    let most : nat_le (value 0 (d ∷ ds)) 2147483647 ≡ true = le-leb _ 2147483647 (omega arith) in
    rw (digit_no_letter d first, first, and_right (is_digit d) (all is_digit ds) a, most) (ap (λ q. Some (Number q)) v)

decimal_kind : (n : ℕ) → n ≤ 2147483647 → kind_of (decimal n) ≡ Some (Number n)
decimal_kind n l =
    let s : n < 2 ^ 64 = omega arith in
    numeral_kind (decimal n) n (decimal_nonempty n s) (digits_decimal own n s) (digits_value-decimal own n s) l

word_no_number : (o : Option Reserved) (n : ℕ) → word_kind o ≡ Number n → ⊥
word_no_number (Some w) n e = cc
word_no_number None n e = cc

number_by : (b : ℕ) (bs : List ℕ) (n : ℕ) (l d q : Bool) → is_letter b ≡ l → is_digit b ≡ d → nat_eq b 34 ≡ q → kind_of (b ∷ bs) ≡ Some (Number n) → n ≤ 2147483647
number_by b bs n true d q x y z h =
    let e : (if all is_inner bs then Some (word_kind (reserved_of (b ∷ bs))) else None) ≡ Some (Number n) = rw x at h in
    absurd (word_no_number (reserved_of (b ∷ bs)) n (chosen_some (all is_inner bs) (word_kind (reserved_of (b ∷ bs))) (Number n) e).1)
number_by b bs n false true q x y z h =
    let k = digit_kind b bs (Number n) x y h in
    let e : Number (value 0 (b ∷ bs)) ≡ Number n = k.1 in
    let v : value 0 (b ∷ bs) ≡ n = cc in
    let m : value 0 (b ∷ bs) ≤ 2147483647 = leb-true _ 2147483647 (and_right (all is_digit bs) _ k.0) in omega arith
number_by b bs n false false true x y z h =
    let e : (if closes bs then Some Text else None) ≡ Some (Number n) = rw (x, y, z) at h in
    let t : Text ≡ Number n = (chosen_some (closes bs) Text (Number n) e).1 in absurd (cc)
number_by b bs n false false false x y z h =
    let e : symbol_kind (symbol_of (b ∷ bs)) ≡ Some (Number n) = rw (x, y, z) at h in
    let s = some_symbol (symbol_of (b ∷ bs)) (Number n) e in
    let t : _ ≡ Number n = s.2 in absurd (cc)

-- the number of a token is at most the greatest
number_small : (bs : List ℕ) (n : ℕ) → kind_of bs ≡ Some (Number n) → n ≤ 2147483647
number_small [] n h = absurd (cc)
number_small (b ∷ bs) n h = number_by b bs n (is_letter b) (is_digit b) (nat_eq b 34) refl refl refl h

-- what the canonical text writes is a token of its kind
pub written_kind : (bs : List ℕ) (k : TokenKind) → kind_of bs ≡ Some k → kind_of (written k bs) ≡ Some k
written_kind bs (Number n) h = decimal_kind n (number_small bs n h)
written_kind bs _ h = h

-- it is written as it is
pub written_again : (bs : List ℕ) (k : TokenKind) → written k (written k bs) ≡ written k bs
written_again bs (Number n) = refl
written_again bs _ = refl
