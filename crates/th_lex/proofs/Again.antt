-- The canonical text is cut into the same tokens.
use Rattle.std.proofs.Common.{◌≡◌, ℕ, zero, suc, ◌+◌, ◌-◌, List, [], ◌∷◌, ◌++◌, length, take, drop, slice_get, map, Some, refl, sym, ◌∙◌, ap, subst, arith, length-append}
use Rattle.std.proofs.lemmas.List.{append-nil}
use Rattle.std.proofs.Math.Seq.{take-append_seam}
use Rattle.std.specs.List.{join_with_byte}
use Rattle.th_tree.specs.declared.tokens.TokenKind.{TokenKind}
use Rattle.th_tree.specs.declared.tokens.Token.{Token}
use Rattle.th_tree.specs.Tokens.{kind_of}
use Rattle.th_tree.specs.Spans.{bytes_of}
use Rattle.th_tree.specs.Cut.{Longest, CutTo, there, gap, token, blank, Cut}
use Rattle.th_lex.specs.Canonical.{written, spelled, canonical, readings, CutsAlike}
use Rattle.th_lex.proofs.Fronts.{drop_here}
use Rattle.th_lex.proofs.Held.{kinds, onward}
use Rattle.th_lex.proofs.Numerals.{written_kind, written_again}
use Rattle.th_lex.proofs.Alone.{alone}

-- a kind with bytes that are a token of it, as the canonical text writes it
record Plain (k : TokenKind) (bs : List ℕ) : Type 0 where
  kind : kind_of bs ≡ Some k
  same : written k bs ≡ bs

abbrev AllPlain : List (TokenKind × List ℕ) → Type 0
AllPlain [] = Unit {0}
AllPlain (p ∷ ps) = Plain p.0 p.1 × AllPlain ps

-- their bytes, joined
abbrev text_of : List (TokenKind × List ℕ) → List ℕ
text_of ps = join_with_byte 32 (map (λ p. p.1) ps)

-- the tokens there, from byte `at` on
abbrev placed : ℕ → List (TokenKind × List ℕ) → List Token
placed at [] = []
placed at (p ∷ ps) = record { kind = p.0; start = at; end = at + length p.1 } ∷ placed (at + length p.1 + 1) ps

stops : (to at : ℕ) → to ≡ at → CutTo to [] at [] []
stops to at e = subst (λ q. CutTo to [] q [] []) e there

longest_last : (bs : List ℕ) (k : TokenKind) → kind_of bs ≡ Some k → Longest bs bs [] k
longest_last bs k h = subst (λ q. Longest q bs [] k) (append-nil bs) (alone bs [] k h (λ c more e. absurd (cc)))

longest_before : (bs more : List ℕ) (k : TokenKind) → kind_of bs ≡ Some k → Longest (bs ++ 32 ∷ more) bs (32 ∷ more) k
longest_before bs more k h = alone bs (32 ∷ more) k h (λ c rest e. cc)

cut_plain : (to at : ℕ) (ps : List (TokenKind × List ℕ)) → AllPlain ps → to ≡ at + length (text_of ps) → CutTo to [] at (text_of ps) (placed at ps)
cut_plain to at [] h e = stops to at (omega arith)
cut_plain to at (p ∷ []) h e = token at p.1 p.1 [] p.0 (longest_last p.1 p.0 h.0.kind) (stops to (at + length p.1) (omega arith))
cut_plain to at (p ∷ q ∷ ps) h e =
    let l : length (p.1 ++ 32 ∷ text_of (q ∷ ps)) ≡ length p.1 + length (32 ∷ text_of (q ∷ ps)) = length-append p.1 (32 ∷ text_of (q ∷ ps)) in
    let on = cut_plain to (at + length p.1 + 1) (q ∷ ps) h.1 (omega arith) in
    token at (p.1 ++ 32 ∷ text_of (q ∷ ps)) p.1 (32 ∷ text_of (q ∷ ps)) p.0 (longest_before p.1 (text_of (q ∷ ps)) p.0 h.0.kind)
    (gap (at + length p.1) (32 ∷ text_of (q ∷ ps)) (text_of (q ∷ ps)) 1 (blank 32 refl) on)

read_one : (whole bs more : List ℕ) (at : ℕ) (k : TokenKind) → bs ++ more ≡ drop at whole → written k bs ≡ bs
    → spelled whole (record { kind = k; start = at; end = at + length bs }) ≡ bs
read_one whole bs more at k e h =
    let size : at + length bs - at ≡ length bs = omega arith in
    let bytes : take (at + length bs - at) (drop at whole) ≡ bs = ap (λ n. take n (drop at whole)) size ∙ ap (take (length bs)) (sym e) ∙ take-append_seam bs more in
    ap (written k) bytes ∙ h

read_plain : (whole : List ℕ) (at : ℕ) (ps : List (TokenKind × List ℕ)) → AllPlain ps → text_of ps ≡ drop at whole → readings whole (placed at ps) ≡ ps
read_plain whole at [] h e = refl
read_plain whole at (p ∷ []) h e = ap (λ q. (p.0, q) ∷ []) (read_one whole p.1 [] at p.0 (append-nil p.1 ∙ e) h.0.same)
read_plain whole at (p ∷ q ∷ ps) h e =
    let behind : 32 ∷ text_of (q ∷ ps) ≡ drop (at + length p.1) whole =
    onward at (length p.1) whole (p.1 ++ 32 ∷ text_of (q ∷ ps)) (32 ∷ text_of (q ∷ ps)) e (drop_here (p.1 ++ 32 ∷ text_of (q ∷ ps)) p.1 (32 ∷ text_of (q ∷ ps)) (length p.1) refl refl) in
    let next : text_of (q ∷ ps) ≡ drop (at + length p.1 + 1) whole = onward (at + length p.1) 1 whole (32 ∷ text_of (q ∷ ps)) (text_of (q ∷ ps)) behind refl in
    let others = read_plain whole (at + length p.1 + 1) (q ∷ ps) h.1 next in
    let one = read_one whole p.1 (32 ∷ text_of (q ∷ ps)) at p.0 e h.0.same in
    ap (λ x. (p.0, x) ∷ readings whole (placed (at + length p.1 + 1) (q ∷ ps))) one ∙ ap (λ x. (p.0, p.1) ∷ x) others

text_readings : (text : List ℕ) (ts : List Token) → map (λ p. p.1) (readings text ts) ≡ map (spelled text) ts
text_readings text [] = refl
text_readings text (t ∷ ts) = ap (λ q. spelled text t ∷ q) (text_readings text ts)

all_plain : (text : List ℕ) (ts : List Token) → ((k : ℕ) (t : Token) → slice_get ts k ≡ Some t → kind_of (bytes_of text t) ≡ Some t.kind) → AllPlain (readings text ts)
all_plain text [] h = tt
all_plain text (t ∷ ts) h =
    (record { kind = written_kind (bytes_of text t) t.kind (h zero t refl); same = written_again (bytes_of text t) t.kind }, all_plain text ts (λ k u e. h (suc k) u e))

pub cuts_alike : (text : List ℕ) (ts : List Token) → Cut text ts → CutsAlike text ts (canonical text ts)
cuts_alike text ts c =
    let ps = readings text ts in
    let plain : AllPlain (readings text ts) = all_plain text ts (kinds c text refl) in
    let same : text_of (readings text ts) ≡ canonical text ts = ap (join_with_byte 32) (text_readings text ts) in
    let cut : Cut (text_of (readings text ts)) (placed 0 (readings text ts)) = cut_plain (length (text_of (readings text ts))) 0 (readings text ts) plain (omega arith) in
    let read : readings (text_of (readings text ts)) (placed 0 (readings text ts)) ≡ readings text ts = read_plain (text_of (readings text ts)) 0 (readings text ts) plain refl in
    subst (CutsAlike text ts) same (placed 0 (readings text ts), cut, read)
