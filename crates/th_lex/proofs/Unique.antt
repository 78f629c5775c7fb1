-- A text has one verdict at most.
use Rattle.std.proofs.Common.{◌≡◌, ℕ, ◌+◌, ◌≤◌, ◌<◌, List, [], ◌∷◌, ◌++◌, length, Some, refl, sym, ◌∙◌, ap, subst, arith, length-append, ◌⊎◌, inl, inr}
use Rattle.std.proofs.lemmas.List.{append_cancel_left}
use Rattle.th_tree.specs.declared.tokens.TokenKind.{TokenKind}
use Rattle.th_tree.specs.declared.tokens.Token.{Token}
use Rattle.th_tree.specs.Tokens.{kind_of}
use Rattle.th_tree.specs.Cut.{TokenAt, Longest, Gap, CutTo, there, gap, token, WideNumber, BadByte, Verdict, Cuts, Bad, Wide, HasVerdict}
use Rattle.th_lex.proofs.Gaps.{gap_some, gap_size, gap_no_token, same_gap, wide_no_gap, wide_no_token}

-- two fronts of one length are one
same_front : (xs bs cs ds : List ℕ) → xs ++ cs ≡ bs ++ ds → length xs ≡ length bs → xs ≡ bs
same_front [] [] cs ds e l = refl
same_front [] (b ∷ bs) cs ds e l = absurd (omega arith)
same_front (a ∷ xs) [] cs ds e l = absurd (omega arith)
same_front (a ∷ xs) (b ∷ bs) cs ds e l =
    let h : a ≡ b = cc in let t : xs ++ cs ≡ bs ++ ds = cc in
    let i : xs ≡ bs = same_front xs bs cs ds t (omega arith) in cc

same_token : (text bs cs more rest : List ℕ) (k j : TokenKind) → Longest text bs more k → Longest text cs rest j → (bs ≡ cs) × (more ≡ rest) × (k ≡ j)
same_token text bs cs more rest k j l r =
    let x : length cs ≤ length bs = l.longest cs rest j r.token in
    let y : length bs ≤ length cs = r.longest bs more k l.token in
    let z : bs ++ more ≡ cs ++ rest = sym l.token.split ∙ r.token.split in
    let same : bs ≡ cs = same_front bs cs more rest z (omega arith) in
    let w : cs ++ more ≡ cs ++ rest = subst (λ q. q ++ more ≡ cs ++ rest) same z in
    let v : kind_of cs ≡ Some k = subst (λ q. kind_of q ≡ Some k) same l.token.is in
    let p : Some k ≡ Some j = sym v ∙ r.token.is in
    (same, append_cancel_left cs more rest w, cc)

pub token_some : (text cs more : List ℕ) (k : TokenKind) → TokenAt text cs more k → 0 < length cs
token_some text [] more k h = absurd (cc (h.is))
token_some text (c ∷ cs) more k h = omega arith

token_text : (text cs more : List ℕ) (k : TokenKind) → TokenAt text cs more k → 0 < length text
token_text text cs more k h =
    let s : 0 < length cs = token_some text cs more k h in
    let e : length text ≡ length cs + length more = ap length h.split ∙ length-append cs more in omega arith

-- how a cutting may stop
pub data Stop : Type 0 where
  AtEnd : Stop
  AtBad : Stop
  AtWide : Stop

abbrev pub Stops : Stop → List ℕ → Type 0
Stops AtEnd rest = rest ≡ []
Stops AtBad rest = BadByte rest
Stops AtWide rest = WideNumber rest

wide_some : (rest : List ℕ) → WideNumber rest → 0 < length rest
wide_some rest w =
    let s = w.some in
    let e : length rest ≡ length w.digits + length w.more = ap length w.split ∙ length-append w.digits w.more in omega arith

same_stop : (f g : Stop) (rest : List ℕ) → Stops f rest → Stops g rest → f ≡ g
same_stop AtEnd AtEnd rest x y = refl
same_stop AtEnd AtBad rest x y = let e : length rest ≡ 0 = ap length x in let s = y.some in absurd (omega arith)
same_stop AtEnd AtWide rest x y = let e : length rest ≡ 0 = ap length x in let s : 0 < length rest = wide_some rest y in absurd (omega arith)
same_stop AtBad AtEnd rest x y = let e : length rest ≡ 0 = ap length y in let s = x.some in absurd (omega arith)
same_stop AtBad AtBad rest x y = refl
same_stop AtBad AtWide rest x y = absurd (x.no_number y)
same_stop AtWide AtEnd rest x y = let e : length rest ≡ 0 = ap length y in let s : 0 < length rest = wide_some rest x in absurd (omega arith)
same_stop AtWide AtBad rest x y = absurd (y.no_number x)
same_stop AtWide AtWide rest x y = refl

stop_no_gap : (f : Stop) (rest more : List ℕ) (n : ℕ) → Stops f rest → Gap more rest n → ⊥
stop_no_gap AtEnd rest more n x g = let e : length rest ≡ 0 = ap length x in let s = gap_some g in let t = gap_size g in omega arith
stop_no_gap AtBad rest more n x g = x.no_gap more n g
stop_no_gap AtWide rest more n x g = wide_no_gap rest more n x g

stop_no_token : (f : Stop) (rest cs more : List ℕ) (k : TokenKind) → Stops f rest → TokenAt rest cs more k → ⊥
stop_no_token AtEnd rest cs more k x h = let e : length rest ≡ 0 = ap length x in let s : 0 < length rest = token_text rest cs more k h in omega arith
stop_no_token AtBad rest cs more k x h = x.no_token cs more k h
stop_no_token AtWide rest cs more k x h = wide_no_token rest cs more k x h

-- how a cutting goes on
pub record Ends (to : ℕ) (rest : List ℕ) (at : ℕ) (text : List ℕ) (ts : List Token) : Type 0 where
  pub place : to ≡ at
  pub left : rest ≡ text
  pub none : ts ≡ []

pub record PastGap (to : ℕ) (rest : List ℕ) (at : ℕ) (text : List ℕ) (ts : List Token) : Type 0 where
  pub more : List ℕ
  pub size : ℕ
  pub is : Gap more text size
  pub on : CutTo to rest (at + size) more ts

pub record PastToken (to : ℕ) (rest : List ℕ) (at : ℕ) (text : List ℕ) (ts : List Token) : Type 0 where
  pub bytes : List ℕ
  pub more : List ℕ
  pub kind : TokenKind
  pub others : List Token
  pub is : Longest text bytes more kind
  pub on : CutTo to rest (at + length bytes) more others
  pub list : ts ≡ record { kind = kind; start = at; end = at + length bytes } ∷ others

view : {to : ℕ} {rest : List ℕ} {at : ℕ} {text : List ℕ} {ts : List Token} → CutTo to rest at text ts → Ends to rest at text ts ⊎ (PastGap to rest at text ts ⊎ PastToken to rest at text ts)
view there = inl (record { place = refl; left = refl; none = refl })
view (gap at text more n g d) = inr (inl (record { more = more; size = n; is = g; on = d }))
view (token {ts = ts} at text bs more k l d) = inr (inr (record { bytes = bs; more = more; kind = k; others = ts; is = l; on = d; list = refl }))

pub record Same (to too : ℕ) (ts us : List Token) (f g : Stop) : Type 0 where
  pub place : to ≡ too
  pub tokens : ts ≡ us
  pub stop : f ≡ g

abbrev tok : TokenKind → ℕ → ℕ → Token
tok k s e = record { kind = k; start = s; end = e }

-- what two cuttings that stop have in common
module _ (to too : ℕ) (rest left : List ℕ) (f g : Stop) (x : Stops f rest) (y : Stops g left) where
  end_by : (us : List Token) → Ends too left to rest us ⊎ (PastGap too left to rest us ⊎ PastToken too left to rest us) → Same to too [] us f g
  end_by us (inl e) = record { place = sym e.place; tokens = sym e.none; stop = same_stop f g rest x (subst (Stops g) e.left y) }
  end_by us (inr (inl p)) = absurd (stop_no_gap f rest p.more p.size x p.is)
  end_by us (inr (inr p)) = absurd (stop_no_token f rest p.bytes p.more p.kind x p.is.token)

  gap_by : (at : ℕ) (text more : List ℕ) (n : ℕ) (ts us : List Token) → Gap more text n → ((vs : List Token) → CutTo too left (at + n) more vs → Same to too ts vs f g)
      → Ends too left at text us ⊎ (PastGap too left at text us ⊎ PastToken too left at text us) → Same to too ts us f g
  gap_by at text more n ts us i go (inl e) = absurd (stop_no_gap g text more n (subst (Stops g) e.left y) i)
  gap_by at text more n ts us i go (inr (inl p)) =
      let s = same_gap text more p.more n p.size i p.is in
      go us (subst (λ q. CutTo too left (at + q) more us) (sym s.1) (subst (λ m. CutTo too left (at + p.size) m us) (sym s.0) p.on))
  gap_by at text more n ts us i go (inr (inr p)) = absurd (gap_no_token i p.bytes p.more p.kind p.is.token)

  token_by : (at : ℕ) (text bs more : List ℕ) (k : TokenKind) (ts us : List Token) → Longest text bs more k → ((vs : List Token) → CutTo too left (at + length bs) more vs → Same to too ts vs f g)
      → Ends too left at text us ⊎ (PastGap too left at text us ⊎ PastToken too left at text us) → Same to too (tok k at (at + length bs) ∷ ts) us f g
  token_by at text bs more k ts us l go (inl e) = absurd (stop_no_token g text bs more k (subst (Stops g) e.left y) l.token)
  token_by at text bs more k ts us l go (inr (inl p)) = absurd (gap_no_token p.is bs more k l.token)
  token_by at text bs more k ts us l go (inr (inr p)) =
      let s = same_token text bs p.bytes more p.more k p.kind l p.is in
      let r = go p.others (subst (λ q. CutTo too left (at + length q) more p.others) (sym s.0) (subst (λ m. CutTo too left (at + length p.bytes) m p.others) (sym s.1) p.on)) in
      let t1 : tok k at (at + length bs) ∷ ts ≡ tok p.kind at (at + length bs) ∷ ts = ap (λ q. tok q at (at + length bs) ∷ ts) s.2 in
      let t2 : tok p.kind at (at + length bs) ∷ ts ≡ tok p.kind at (at + length p.bytes) ∷ ts = ap (λ q. tok p.kind at (at + length q) ∷ ts) s.0 in
      let t3 : tok p.kind at (at + length p.bytes) ∷ ts ≡ tok p.kind at (at + length p.bytes) ∷ p.others = ap (λ q. tok p.kind at (at + length p.bytes) ∷ q) r.tokens in
      record { place = r.place; tokens = t1 ∙ t2 ∙ t3 ∙ sym p.list; stop = r.stop }

  pub same : {at : ℕ} {text : List ℕ} {ts : List Token} → CutTo to rest at text ts → (us : List Token) → CutTo too left at text us → Same to too ts us f g
  same there = λ us e. end_by us (view e)
  same (gap {ts = ts} at text more n i d) = λ us e. gap_by at text more n ts us i (same d) (view e)
  same (token {ts = ts} at text bs more k l d) = λ us e. token_by at text bs more k ts us l (same d) (view e)

-- the verdict of a cutting that stops
abbrev verdict : Stop → ℕ → List Token → Verdict
verdict AtEnd to ts = Cuts ts
verdict AtBad to ts = Bad to
verdict AtWide to ts = Wide to

record Reached (text : List ℕ) (v : Verdict) : Type 0 where
  to : ℕ
  rest : List ℕ
  list : List Token
  stop : Stop
  cut : CutTo to rest 0 text list
  stops : Stops stop rest
  gives : v ≡ verdict stop to list

reached : (text : List ℕ) (v : Verdict) → HasVerdict text v → Reached text v
reached text (Cuts ts) h = record { to = length text; rest = []; list = ts; stop = AtEnd; cut = h; stops = refl; gives = refl }
reached text (Bad p) h = record { to = p; rest = h.0; list = h.1; stop = AtBad; cut = h.2; stops = h.3; gives = refl }
reached text (Wide p) h = record { to = p; rest = h.0; list = h.1; stop = AtWide; cut = h.2; stops = h.3; gives = refl }

-- a text has one verdict at most
pub one_verdict : (text : List ℕ) (v w : Verdict) → HasVerdict text v → HasVerdict text w → w ≡ v
one_verdict text v w h i =
    let a = reached text v h in
    let b = reached text w i in
    let s = same a.to b.to a.rest b.rest a.stop b.stop a.stops b.stops a.cut b.list b.cut in
    let e1 : verdict a.stop a.to a.list ≡ verdict b.stop a.to a.list = ap (λ q. verdict q a.to a.list) s.stop in
    let e2 : verdict b.stop a.to a.list ≡ verdict b.stop b.to a.list = ap (λ q. verdict b.stop q a.list) s.place in
    let e3 : verdict b.stop b.to a.list ≡ verdict b.stop b.to b.list = ap (λ q. verdict b.stop b.to q) s.tokens in
    sym (a.gives ∙ e1 ∙ e2 ∙ e3 ∙ sym b.gives)
