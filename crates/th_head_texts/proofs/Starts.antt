-- Where tokens start.
use Rattle.std.proofs.Common.{add-one, ◌≡◌, ℕ, zero, suc, ◌+◌, ◌≤◌, ◌<◌, ◌-◌, true, false, List, [], ◌∷◌, length, drop, get_or, refl, sym, ◌∙◌, ap, arith}
use Rattle.std.specs.Prelude.{nat_lt}
use Rattle.std.proofs.Math.Seq.{drop-cons}
use Rattle.std.proofs.lemmas.Bool.{lt-ltb}
use Rattle.std.proofs.lemmas.List.{drop_all, get_or_default}
use Rattle.std.proofs.lemmas.List.Sorted.{IsNonDecreasingBy-from_all_adjacent, all_adjacent_more}
use Rattle.std.specs.List.{AllAdjacentBelow}
use Rattle.std.specs.List.Sorted.{IsNonDecreasingBy}
use Rattle.std.proofs.lemmas.Bool.Decides.{nat_tests}
use Rattle.th_tree.specs.declared.tokens.Token.{Token}
use Rattle.th_head_texts.specs.Heads.{from_byte}

-- the tokens before a place start before a byte, and that at the place does not
pub first_place : (at : ℕ) (ts : List Token) (i : ℕ) → i ≤ length ts → ((k : ℕ) (d : Token) → k < i → nat_lt (get_or ts k d).start at ≡ true)
    → ((d : Token) → i < length ts → nat_lt (get_or ts i d).start at ≡ false) → from_byte at ts ≡ drop i ts
first_place at [] zero l before here = refl
first_place at [] (suc i) l before here = absurd (omega arith)
first_place at (t ∷ ts) zero l before here = rw (here t (omega arith)) refl
first_place at (t ∷ ts) (suc i) l before here =
    rw (before 0 t (omega arith)) (first_place at ts i (omega arith) (λ k d s. before (suc k) d (omega arith)) (λ d s. here d (omega arith)))

-- a token that starts before the byte is passed over
pub passed : (at : ℕ) (ts : List Token) (k : ℕ) (d : Token) → k < length ts → (get_or ts k d).start < at → from_byte at (drop k ts) ≡ from_byte at (drop (k + 1) ts)
passed at ts k d l s =
    let skip : from_byte at (get_or ts k d ∷ drop (suc k) ts) ≡ from_byte at (drop (suc k) ts) = rw (lt-ltb (get_or ts k d).start at s) refl in
    ap (from_byte at) (drop-cons ts k d l) ∙ skip ∙ ap (λ n. from_byte at (drop n ts)) (sym (add-one k))

not_below : (a b : ℕ) → b ≤ a → nat_lt a b ≡ false
not_below a b l = grind (arith, nat_tests)

-- the first token that does not start before the byte
pub reached : (at : ℕ) (ts : List Token) (k : ℕ) (d : Token) → k < length ts → at ≤ (get_or ts k d).start → from_byte at (drop k ts) ≡ drop k ts
reached at ts k d l s =
    let stop : from_byte at (get_or ts k d ∷ drop (suc k) ts) ≡ get_or ts k d ∷ drop (suc k) ts = rw (not_below (get_or ts k d).start at s) refl in
    ap (from_byte at) (drop-cons ts k d l) ∙ stop ∙ sym (drop-cons ts k d l)

-- no token is left
pub none_reached : (at : ℕ) (ts : List Token) (k : ℕ) → length ts ≤ k → from_byte at (drop k ts) ≡ drop k ts
none_reached at ts k l = rw (drop_all k ts l) refl

-- each token starts where the one before it does or after it, up to a place
abbrev pub Rising : List Token → ℕ → Type 0
Rising ts k = AllAdjacentBelow (λ x y. x.start ≤ y.start) ts k

pub rising_none : (ts : List Token) → Rising ts 1
rising_none ts = λ k d l. absurd (omega arith)

pub rising_more : (ts : List Token) (k : ℕ) (d : Token) → 0 < k → k < length ts → Rising ts k → (get_or ts (k - 1) d).start ≤ (get_or ts k d).start → Rising ts (k + 1)
rising_more ts k d s l h e =
    all_adjacent_more ts (λ x y. x.start ≤ y.start) k s h
    (λ c. let before = ap (λ (t : Token). t.start) (get_or_default ts (k - 1) c d (omega arith)) in
    let here = ap (λ (t : Token). t.start) (get_or_default ts k c d l) in
    omega arith)

pub rising_all : (ts : List Token) (k : ℕ) → length ts ≤ k → Rising ts k → IsNonDecreasingBy (λ t. t.start) ts
rising_all ts k l h = IsNonDecreasingBy-from_all_adjacent (λ t. t.start) ts (λ j d s. h j d (omega arith))
