-- One step of the cutting, and its order.
use Rattle.std.proofs.Common.{◌≡◌, ℕ, ◌+◌, ◌≤◌, ◌<◌, List, [], ◌∷◌, ◌++◌, length, take, drop, sym, subst, arith, append_assoc, length-drop, ◌-◌}
use Rattle.std.proofs.Math.Seq.{take-length}
use Rattle.std.proofs.lemmas.List.{length-take-le, append-nil, drop-drop, drop_all}
use Rattle.th_tree.specs.declared.tokens.TokenKind.{TokenKind}
use Rattle.th_tree.specs.declared.tokens.Token.{Token}
use Rattle.th_tree.specs.Spans.{InOrder}
use Rattle.th_tree.specs.Cut.{Longest, Gap, CutTo, there, gap, token, Cut, BadByte, WideNumber, FirstBad, FirstWide}
use Rattle.th_lex.proofs.Gaps.{gap_size}
use Rattle.th_lex.proofs.Unique.{token_some}

later : (a b to : ℕ) (ts : List Token) → b ≤ a → InOrder a to ts → InOrder b to ts
later a b to [] l h = omega arith
later a b to (t ∷ ts) l h = (let x = h.0 in omega arith, h.1, h.2)

-- the tokens of a cutting are in order
pub in_order : {to : ℕ} {rest : List ℕ} {at : ℕ} {text : List ℕ} {ts : List Token} → CutTo to rest at text ts → InOrder at to ts
in_order {to = to} there = omega arith
in_order {to = to} (gap {ts = ts} at text more n g d) = later (at + n) at to ts (omega arith) (in_order d)
in_order (token at text bs more k l d) = (omega arith, (let s : 0 < length bs = token_some text bs more k l.token in omega arith), in_order d)

further_drop : (m n : ℕ) (xs : List ℕ) → drop (m + n) xs ≡ drop n (drop m xs)
further_drop m n xs = sym (drop-drop n m xs)

drop_none : (n : ℕ) (xs : List ℕ) → length xs ≤ n → drop n xs ≡ []
drop_none n xs l = drop_all n xs l

-- What is cut up to byte `at`: each cutting from there is one from the start, with these tokens before.
pub record Done (text : List ℕ) (at : ℕ) (ts : List Token) : Type 0 where
  pub within : at ≤ length text
  pub before : (to : ℕ) (rest : List ℕ) (us : List Token) → CutTo to rest at (drop at text) us → CutTo to rest 0 text (ts ++ us)

pub at_start : (text : List ℕ) → Done text 0 []
at_start text = record { within = omega arith; before = λ to rest us d. d }

rest_all : (at : ℕ) (text : List ℕ) → take (length text - at) (drop at text) ≡ drop at text
rest_all at text = let e : length text - at ≡ length (drop at text) = sym (length-drop at text) in rw e (take-length (drop at text))

pub past_gap : (text : List ℕ) (at n : ℕ) (ts : List Token) → Done text at ts → Gap (drop n (take (length text - at) (drop at text))) (take (length text - at) (drop at text)) n → Done text (at + n) ts
past_gap text at n ts h g0 =
    let g : Gap (drop n (drop at text)) (drop at text) n = subst (λ q. Gap (drop n q) q n) (rest_all at text) g0 in
    let size : length (drop at text) ≡ n + length (drop n (drop at text)) = gap_size g in
    let left : length (drop at text) ≡ length text - at = length-drop at text in
    let w = h.within in
    record {
      within = omega arith;
      before = λ to rest us d. h.before to rest us (gap at (drop at text) (drop n (drop at text)) n g (subst (λ q. CutTo to rest (at + n) q us) (further_drop at n text) d));
    }

pub past_token : (text : List ℕ) (at n : ℕ) (k : TokenKind) (ts : List Token) → Done text at ts
    → (n ≤ length (take (length text - at) (drop at text))) × Longest (take (length text - at) (drop at text)) (take n (take (length text - at) (drop at text))) (drop n (take (length text - at) (drop at text))) k
    → Done text (at + n) (ts ++ record { kind = k; start = at; end = at + n } ∷ [])
past_token text at n k ts h s0 =
    let s : (n ≤ length (drop at text)) × Longest (drop at text) (take n (drop at text)) (drop n (drop at text)) k =
    subst (λ q. (n ≤ length q) × Longest q (take n q) (drop n q) k) (rest_all at text) s0 in
    let len : length (take n (drop at text)) ≡ n = length-take-le n (drop at text) s.0 in
    let left : length (drop at text) ≡ length text - at = length-drop at text in
    let w = h.within in
    let i = s.0 in
    record {
      within = omega arith;
      before = λ to rest us d.
          let d1 : CutTo to rest (at + n) (drop n (drop at text)) us = subst (λ q. CutTo to rest (at + n) q us) (further_drop at n text) d in
          let d2 : CutTo to rest (at + length (take n (drop at text))) (drop n (drop at text)) us = subst (λ q. CutTo to rest (at + q) (drop n (drop at text)) us) (sym len) d1 in
          let d3 = h.before to rest _ (token at (drop at text) (take n (drop at text)) (drop n (drop at text)) k s.1 d2) in
          let d4 = subst (λ q. CutTo to rest 0 text (ts ++ record { kind = k; start = at; end = at + q } ∷ us)) len d3 in
          subst (λ q. CutTo to rest 0 text q) (sym (append_assoc ts (record { kind = k; start = at; end = at + n } ∷ []) us)) d4;
    }

-- what is cut up to a byte
pub stopped : (text : List ℕ) (at : ℕ) (ts : List Token) → Done text at ts → CutTo at (drop at text) 0 text ts
stopped text at ts h = subst (λ q. CutTo at (drop at text) 0 text q) (append-nil ts) (h.before at (drop at text) [] there)

pub first_bad : (text : List ℕ) (at : ℕ) (ts : List Token) → Done text at ts → BadByte (take (length text - at) (drop at text)) → FirstBad text at
first_bad text at ts h b = (drop at text, ts, stopped text at ts h, subst BadByte (rest_all at text) b)

pub first_wide : (text : List ℕ) (at : ℕ) (ts : List Token) → Done text at ts → WideNumber (take (length text - at) (drop at text)) → FirstWide text at
first_wide text at ts h b = (drop at text, ts, stopped text at ts h, subst WideNumber (rest_all at text) b)

pub whole : (text : List ℕ) (at : ℕ) (ts : List Token) → Done text at ts → length text ≤ at → Cut text ts
whole text at ts h l =
    let w = h.within in
    let e : at ≡ length text = omega arith in
    let n : drop at text ≡ [] = drop_none at text l in
    subst (λ q. CutTo q [] 0 text ts) e (subst (λ q. CutTo at q 0 text ts) n (stopped text at ts h))
