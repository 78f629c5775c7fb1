-- String literals.
use Rattle.std.proofs.Common.{◌≡◌, ℕ, suc, ◌+◌, ◌≤◌, ◌<◌, Bool, true, false, if◌then◌else◌, ◌&&◌, nat_eq, List, [], ◌∷◌, ◌++◌, length, take, drop, slice_index, Option, Some, None, refl, sym, ◌∙◌, ap, subst, arith, ◌⊎◌, inl, inr, ◌-◌}
use Rattle.std.proofs.Math.Seq.{take-length}
use Rattle.std.proofs.lemmas.Bool.{eqb-true}
use Rattle.th_tree.specs.declared.tokens.TokenKind.{TokenKind}
use Rattle.th_tree.specs.declared.tokens.TokenKind.TheVariants.{Text}
use Rattle.th_tree.specs.Tokens.{is_digit, is_blank, is_printed, is_escape, all, closes, escape_closes, kind_of}
use Rattle.th_tree.specs.Cut.{Longest, Gap, blank, comment, WideNumber, BadByte}
use Rattle.th_lex.specs.Stands.{further, quoted, escaped}
use Rattle.th_lex.proofs.Fronts.{and_left}
use Rattle.th_lex.proofs.Right.{longest_here, tail_of, chosen_some}

-- a closing quote ends n bytes
pub record Closed (f : List ℕ → Bool) (bs : List ℕ) (n : ℕ) : Type 0 where
  pub front : List ℕ
  pub rest : List ℕ
  pub split : bs ≡ front ++ rest
  pub size : n ≡ length front
  pub closed : f front ≡ true

-- one byte before
one_more : (f g : List ℕ → Bool) (b n : ℕ) (bs : List ℕ) (o : Option ℕ) → ((k : ℕ) → o ≡ Some k → Closed g bs k) → ((cs : List ℕ) → g cs ≡ true → f (b ∷ cs) ≡ true) → further 1 o ≡ Some n → Closed f (b ∷ bs) n
one_more f g b n bs None h k e = absurd (cc)
one_more f g b n bs (Some m) h k e =
    let c = h m refl in
    let i : 1 + m ≡ n = cc in
    record { front = b ∷ c.front; rest = c.rest; split = ap (λ x. b ∷ x) c.split; size = (let z = c.size in omega arith); closed = k c.front c.closed }

closes_plain : (b : ℕ) (cs : List ℕ) → nat_eq b 34 ≡ false → nat_eq b 92 ≡ false → is_printed b ≡ true → closes cs ≡ true → closes (b ∷ cs) ≡ true
closes_plain b cs q s p h = rw (q, s, p) h

closes_escape : (b : ℕ) (cs : List ℕ) → nat_eq b 34 ≡ false → nat_eq b 92 ≡ true → escape_closes cs ≡ true → closes (b ∷ cs) ≡ true
closes_escape b cs q s h = rw (q, s) h

quoted_by : (b : ℕ) (bs : List ℕ) (n : ℕ) (q s p : Bool) → nat_eq b 34 ≡ q → nat_eq b 92 ≡ s → is_printed b ≡ p
    → ((k : ℕ) → quoted bs ≡ Some k → Closed closes bs k) → ((k : ℕ) → escaped bs ≡ Some k → Closed escape_closes bs k)
    → (if q then Some 1 else (if s then further 1 (escaped bs) else (if p then further 1 (quoted bs) else None))) ≡ Some n → Closed closes (b ∷ bs) n
quoted_by b bs n true s p x y z f g e = let i : 1 ≡ n = cc in record { front = b ∷ []; rest = bs; split = refl; size = sym i; closed = rw x refl }
quoted_by b bs n false true p x y z f g e = one_more closes escape_closes b n bs (escaped bs) g (λ cs h. closes_escape b cs x y h) e
quoted_by b bs n false false true x y z f g e = one_more closes closes b n bs (quoted bs) f (λ cs h. closes_plain b cs x y z h) e
quoted_by b bs n false false false x y z f g e = absurd (cc)

escaped_by : (c : ℕ) (bs : List ℕ) (n : ℕ) (v : Bool) → is_escape c ≡ v → ((k : ℕ) → quoted bs ≡ Some k → Closed closes bs k)
    → (if v then further 1 (quoted bs) else None) ≡ Some n → Closed escape_closes (c ∷ bs) n
escaped_by c bs n true x f e = one_more escape_closes closes c n bs (quoted bs) f (λ cs h. rw x h) e
escaped_by c bs n false x f e = absurd (cc)

-- what is counted is closed
mutual
  pub quoted_closes : (bs : List ℕ) (n : ℕ) → quoted bs ≡ Some n → Closed closes bs n
  quoted_closes [] n e = absurd (cc)
  quoted_closes (b ∷ bs) n e = quoted_by b bs n (nat_eq b 34) (nat_eq b 92) (is_printed b) refl refl refl (quoted_closes bs) (escaped_closes bs) e

  escaped_closes : (bs : List ℕ) (n : ℕ) → escaped bs ≡ Some n → Closed escape_closes bs n
  escaped_closes [] n e = absurd (cc)
  escaped_closes (c ∷ bs) n e = escaped_by c bs n (is_escape c) refl (quoted_closes bs) e

empty : (bs : List ℕ) → nat_eq (length bs) 0 ≡ true → bs ≡ []
empty [] h = refl
empty (b ∷ bs) h = let e : suc (length bs) ≡ 0 = eqb-true _ _ h in absurd (omega arith)

closes_by : (b : ℕ) (bs rest : List ℕ) (q s p : Bool) → nat_eq b 34 ≡ q → nat_eq b 92 ≡ s → is_printed b ≡ p
    → (closes bs ≡ true → quoted (bs ++ rest) ≡ Some (length bs)) → (escape_closes bs ≡ true → escaped (bs ++ rest) ≡ Some (length bs))
    → (if q then nat_eq (length bs) 0 else (if s then escape_closes bs else p && closes bs)) ≡ true
    → quoted (b ∷ (bs ++ rest)) ≡ Some (suc (length bs))
closes_by b bs rest true s p x y z f g h = let e : bs ≡ [] = empty bs h in rw x (ap (λ q. Some (suc (length q))) (sym e))
closes_by b bs rest false true p x y z f g h = let i : 1 + length bs ≡ suc (length bs) = omega arith in rw (x, y, g h) (ap (λ k. Some k) i)
closes_by b bs rest false false true x y z f g h = let i : 1 + length bs ≡ suc (length bs) = omega arith in rw (x, y, z, f h) (ap (λ k. Some k) i)
closes_by b bs rest false false false x y z f g h = absurd (cc)

escape_by : (c : ℕ) (bs rest : List ℕ) (v : Bool) → is_escape c ≡ v → (closes bs ≡ true → quoted (bs ++ rest) ≡ Some (length bs))
    → (v && closes bs) ≡ true → escaped (c ∷ (bs ++ rest)) ≡ Some (suc (length bs))
escape_by c bs rest true x f h = let i : 1 + length bs ≡ suc (length bs) = omega arith in rw (x, f h) (ap (λ k. Some k) i)
escape_by c bs rest false x f h = absurd (cc)

-- what is closed is counted
mutual
  pub closes_quoted : (bs rest : List ℕ) → closes bs ≡ true → quoted (bs ++ rest) ≡ Some (length bs)
  closes_quoted [] rest h = absurd (cc)
  closes_quoted (b ∷ bs) rest h = closes_by b bs rest (nat_eq b 34) (nat_eq b 92) (is_printed b) refl refl refl (closes_quoted bs rest) (escape_quoted bs rest) h

  escape_quoted : (bs rest : List ℕ) → escape_closes bs ≡ true → escaped (bs ++ rest) ≡ Some (length bs)
  escape_quoted [] rest h = absurd (cc)
  escape_quoted (c ∷ bs) rest h = escape_by c bs rest (is_escape c) refl (closes_quoted bs rest) h

-- a token at a quote is a literal
quote_kind : (ds : List ℕ) (j : TokenKind) → kind_of (34 ∷ ds) ≡ Some j → (closes ds ≡ true) × (Text ≡ j)
quote_kind ds j e = chosen_some (closes ds) Text j e

pub rest_whole : (b : ℕ) (bs : List ℕ) → take (length (b ∷ bs) - 1) bs ≡ bs
rest_whole b bs = let e : length (b ∷ bs) - 1 ≡ length bs = omega arith in rw e (take-length bs)

literal_at : (bs : List ℕ) (n : ℕ) → quoted bs ≡ Some n → (1 + n ≤ length (34 ∷ bs)) × Longest (34 ∷ bs) (take (1 + n) (34 ∷ bs)) (drop (1 + n) (34 ∷ bs)) Text
literal_at bs n e =
    let c = quoted_closes bs n e in
    let size : 1 + n ≡ length (34 ∷ c.front) = (let z = c.size in omega arith) in
    longest_here (34 ∷ bs) (34 ∷ c.front) c.rest (1 + n) Text size (record {
      token = record { split = ap (λ x. 34 ∷ x) c.split; is = rw (c.closed) refl; ends = tt };
      longest = λ cs rest j h.
          let t = tail_of 34 bs cs rest j h in
          let q : quoted (t.tail ++ rest) ≡ Some (length t.tail) = closes_quoted t.tail rest (quote_kind t.tail j t.kind).0 in
          let r : quoted bs ≡ Some (length t.tail) = subst (λ x. quoted x ≡ Some (length t.tail)) (sym t.split) q in
          let l : Some n ≡ Some (length t.tail) = sym e ∙ r in
          let m : n ≡ length t.tail = cc in
          let w : length cs ≡ suc (length t.tail) = ap length t.is in
          let z = c.size in omega arith;
    })

pub literal_stands : (text : List ℕ) (n : ℕ) → 0 < length text → slice_index text 0 ≡ 34 → quoted (take (length text - 1) (drop 1 text)) ≡ Some n
    → (1 + n ≤ length text) × Longest text (take (1 + n) text) (drop (1 + n) text) Text
literal_stands [] n s q e = absurd (omega arith)
literal_stands (b ∷ bs) n s q e =
    let first : b ≡ 34 = q in
    let whole : quoted bs ≡ Some n = subst (λ x. quoted x ≡ Some n) (rest_whole b bs) e in
    subst (λ x. (1 + n ≤ length (x ∷ bs)) × Longest (x ∷ bs) (take (1 + n) (x ∷ bs)) (drop (1 + n) (x ∷ bs)) Text) (sym first) (literal_at bs n whole)

-- the first byte of a gap
pub gap_first : (text more : List ℕ) (n : ℕ) → Gap more text n → (is_blank (slice_index text 0) ≡ true) ⊎ (slice_index text 0 ≡ 35)
gap_first text more n (blank b e) = inl e
gap_first text more n (comment cs e f) = inr refl

-- the first byte of a wide number
pub wide_first : (text : List ℕ) → WideNumber text → is_digit (slice_index text 0) ≡ true
wide_first text w = first w.digits w.more w.split w.some w.are where
  first : (ds more : List ℕ) → text ≡ ds ++ more → 0 < length ds → all is_digit ds ≡ true → is_digit (slice_index text 0) ≡ true
  first [] more e s a = absurd (omega arith)
  first (d ∷ ds) more e s a = rw e (and_left (is_digit d) (all is_digit ds) a)

literal_none : (bs : List ℕ) → quoted bs ≡ None → BadByte (34 ∷ bs)
literal_none bs e = record {
  some = omega arith;
  no_gap = λ more n g. elim (gap_first (34 ∷ bs) more n g) [ inl h ↦ cc | inr h ↦ absurd (omega arith) ];
  no_token = λ cs rest j h.
      let t = tail_of 34 bs cs rest j h in
      let q : quoted (t.tail ++ rest) ≡ Some (length t.tail) = closes_quoted t.tail rest (quote_kind t.tail j t.kind).0 in
      let r : quoted bs ≡ Some (length t.tail) = subst (λ x. quoted x ≡ Some (length t.tail)) (sym t.split) q in cc (sym e ∙ r);
  no_number = λ w. cc (wide_first (34 ∷ bs) w);
}

pub literal_bad : (text : List ℕ) → 0 < length text → slice_index text 0 ≡ 34 → quoted (take (length text - 1) (drop 1 text)) ≡ None → BadByte text
literal_bad [] s q e = absurd (omega arith)
literal_bad (b ∷ bs) s q e =
    let first : b ≡ 34 = q in
    let whole : quoted bs ≡ None = subst (λ x. quoted x ≡ None) (rest_whole b bs) e in
    subst (λ x. BadByte (x ∷ bs)) (sym first) (literal_none bs whole)
