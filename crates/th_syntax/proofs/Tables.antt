-- Numbers in a table stay as it grows.
use Rattle.std.proofs.Common.{◌≡◌, ℕ, suc, ◌+◌, ◌≤◌, Bool, true, false, ◌||◌, List, [], ◌∷◌, ◌++◌, length, refl, sym, ◌∙◌, subst, ap, append_assoc, append-nil, length-append, if◌then◌else◌, arith, eq-eqb, ◌<◌, drop, get_or, slice_get, Some}
use Rattle.std.specs.Str.{bytes_eq}
use Rattle.std.proofs.lemmas.Option.{slice_get-get_or}
use Rattle.std.proofs.lemmas.List.{drop_more}
use Rattle.th_tree.specs.declared.tokens.TokenKind.{TokenKind}
use Rattle.th_tree.specs.declared.tokens.TokenKind.TheVariants as kinds
use Rattle.th_tree.specs.declared.tokens.Token.{Token}
use Rattle.th_tree.specs.declared.lexeme.Mark.{Mark}
use Rattle.th_tree.specs.declared.lexeme.Mark.TheVariants as marks
use Rattle.th_tree.specs.declared.lexeme.Lexeme.{Lexeme}
use Rattle.th_tree.specs.Spans.{bytes_of}
use Rattle.th_tree.specs.Names.{is_there, place_of, with_name}
use Rattle.th_tree.specs.Numbered.{literal_value, mark_of, lexeme_of, lexemes_of, with_token, with_tokens}
use Rattle.th_syntax.specs.Grown.{Grown, TokenThere}

same_bytes : (bs : List ℕ) → bytes_eq bs bs ≡ true
same_bytes [] = refl
same_bytes (b ∷ bs) = rw (eq-eqb b b refl, same_bytes bs) refl

-- a name that is there keeps its place
stable : (ns more : List (List ℕ)) (n : List ℕ) → is_there ns n ≡ true → place_of (ns ++ more) n ≡ place_of ns n
stable [] more n e = absurd (cc)
stable (x ∷ ns) more n e = go (bytes_eq n x) e (λ d. stable ns more n d) where
  go : (b : Bool) → (b || is_there ns n) ≡ true → (is_there ns n ≡ true → place_of (ns ++ more) n ≡ place_of ns n) → (if b then 0 else 1 + place_of (ns ++ more) n) ≡ (if b then 0 else 1 + place_of ns n)
  go true d k = refl
  go false d k = ap (λ y. 1 + y) (k d)

there_more : (ns more : List (List ℕ)) (n : List ℕ) → is_there ns n ≡ true → is_there (ns ++ more) n ≡ true
there_more [] more n e = absurd (cc)
there_more (x ∷ ns) more n e = go (bytes_eq n x) e (λ d. there_more ns more n d) where
  go : (b : Bool) → (b || is_there ns n) ≡ true → (is_there ns n ≡ true → is_there (ns ++ more) n ≡ true) → (b || is_there (ns ++ more) n) ≡ true
  go true d k = refl
  go false d k = k d

there_last : (ns : List (List ℕ)) (n : List ℕ) → is_there (ns ++ n ∷ []) n ≡ true
there_last [] n = rw (same_bytes n) refl
there_last (x ∷ ns) n = go (bytes_eq n x) (there_last ns n) where
  go : (b : Bool) → is_there (ns ++ n ∷ []) n ≡ true → (b || is_there (ns ++ n ∷ []) n) ≡ true
  go true d = refl
  go false d = d

place_last : (ns : List (List ℕ)) (n : List ℕ) → is_there ns n ≡ false → place_of (ns ++ n ∷ []) n ≡ place_of ns n
place_last [] n e = rw (same_bytes n) refl
place_last (x ∷ ns) n e = go (bytes_eq n x) e (λ d. place_last ns n d) where
  go : (b : Bool) → (b || is_there ns n) ≡ false → (is_there ns n ≡ false → place_of (ns ++ n ∷ []) n ≡ place_of ns n) → (if b then 0 else 1 + place_of (ns ++ n ∷ []) n) ≡ (if b then 0 else 1 + place_of ns n)
  go true d k = absurd (cc)
  go false d k = ap (λ y. 1 + y) (k d)

-- the table with a name has it, at its place
pub name_there : (ns : List (List ℕ)) (n : List ℕ) → is_there (with_name ns n) n ≡ true
name_there ns n = go (is_there ns n) refl where
  go : (b : Bool) → is_there ns n ≡ b → is_there (if b then ns else ns ++ n ∷ []) n ≡ true
  go true e = e
  go false e = there_last ns n

pub name_place : (ns : List (List ℕ)) (n : List ℕ) → place_of ns n ≡ place_of (with_name ns n) n
name_place ns n = go (is_there ns n) refl where
  go : (b : Bool) → is_there ns n ≡ b → place_of ns n ≡ place_of (if b then ns else ns ++ n ∷ []) n
  go true e = refl
  go false e = sym (place_last ns n e)

name_grown : (ns : List (List ℕ)) (n : List ℕ) → Grown ns (with_name ns n)
name_grown ns n = go (is_there ns n) where
  go : (b : Bool) → Grown ns (if b then ns else ns ++ n ∷ [])
  go true = ([], sym (append-nil ns))
  go false = (n ∷ [], refl)

pub token_grown : (ns : List (List ℕ)) (k : TokenKind) (bs : List ℕ) → Grown ns (with_token ns k bs)
token_grown ns kinds.Name bs = name_grown ns bs
token_grown ns kinds.Text bs = name_grown ns (literal_value bs)
token_grown ns (kinds.Word w) bs = ([], sym (append-nil ns))
token_grown ns (kinds.Number n) bs = ([], sym (append-nil ns))
token_grown ns (kinds.Symbol s) bs = ([], sym (append-nil ns))

mark_stable : (ns more : List (List ℕ)) (k : TokenKind) (bs : List ℕ) → TokenThere ns k bs → mark_of (ns ++ more) k bs ≡ mark_of ns k bs
mark_stable ns more kinds.Name bs h = ap marks.Name (stable ns more bs h)
mark_stable ns more kinds.Text bs h = ap marks.Text (stable ns more (literal_value bs) h)
mark_stable ns more (kinds.Word w) bs h = refl
mark_stable ns more (kinds.Number n) bs h = refl
mark_stable ns more (kinds.Symbol s) bs h = refl

token_more : (ns more : List (List ℕ)) (k : TokenKind) (bs : List ℕ) → TokenThere ns k bs → TokenThere (ns ++ more) k bs
token_more ns more kinds.Name bs h = there_more ns more bs h
token_more ns more kinds.Text bs h = there_more ns more (literal_value bs) h
token_more ns more (kinds.Word w) bs h = tt
token_more ns more (kinds.Number n) bs h = tt
token_more ns more (kinds.Symbol s) bs h = tt

-- what each token stands for is there
abbrev pub AllThere : List (List ℕ) → List ℕ → List Token → Type 0
AllThere ns text [] = Unit {0}
AllThere ns text (t ∷ ts) = TokenThere ns t.kind (bytes_of text t) × AllThere ns text ts

all_more : (ns more : List (List ℕ)) (text : List ℕ) (ts : List Token) → AllThere ns text ts → AllThere (ns ++ more) text ts
all_more ns more text [] h = tt
all_more ns more text (t ∷ ts) h = (token_more ns more t.kind (bytes_of text t) h.0, all_more ns more text ts h.1)

all_push : (ns : List (List ℕ)) (text : List ℕ) (ts : List Token) (t : Token) → AllThere ns text ts → TokenThere ns t.kind (bytes_of text t) → AllThere ns text (ts ++ t ∷ [])
all_push ns text [] t h i = (i, tt)
all_push ns text (u ∷ ts) t h i = (h.0, all_push ns text ts t h.1 i)

lexemes_stable : (ns more : List (List ℕ)) (text : List ℕ) (ts : List Token) → AllThere ns text ts → lexemes_of (ns ++ more) text ts ≡ lexemes_of ns text ts
lexemes_stable ns more text [] h = refl
lexemes_stable ns more text (t ∷ ts) h = rw (mark_stable ns more t.kind (bytes_of text t) h.0, lexemes_stable ns more text ts h.1) refl

lexemes_push : (ns : List (List ℕ)) (text : List ℕ) (ts : List Token) (t : Token) → lexemes_of ns text (ts ++ t ∷ []) ≡ lexemes_of ns text ts ++ lexeme_of ns text t ∷ []
lexemes_push ns text [] t = refl
lexemes_push ns text (u ∷ ts) t = ap (λ y. lexeme_of ns text u ∷ y) (lexemes_push ns text ts t)

-- where the numbering stands before the tokens that are left
pub record Numbering (old : List (List ℕ)) (text : List ℕ) (all left : List Token) (table : List (List ℕ)) (found : List Lexeme) : Type 0 where
  pub front : List Token
  pub split : all ≡ front ++ left
  pub lexemes : found ≡ lexemes_of table text front
  pub there : AllThere table text front
  pub names : with_tokens old text all ≡ with_tokens table text left
  pub grown : Grown old table
  pub short : length table ≤ length old + length front

pub numbering_starts : (old : List (List ℕ)) (text : List ℕ) (all : List Token) → Numbering old text all all old []
numbering_starts old text all = record { front = []; split = refl; lexemes = refl; there = tt; names = refl; grown = ([], sym (append-nil old)); short = omega arith }

with_short : (ns : List (List ℕ)) (n : List ℕ) → length (with_name ns n) ≤ length ns + 1
with_short ns n = go (is_there ns n) where
  go : (b : Bool) → length (if b then ns else ns ++ n ∷ []) ≤ length ns + 1
  go true = omega arith
  go false = omega (arith, length-append ns (n ∷ []))

token_short : (ns : List (List ℕ)) (k : TokenKind) (bs : List ℕ) → length (with_token ns k bs) ≤ length ns + 1
token_short ns kinds.Name bs = with_short ns bs
token_short ns kinds.Text bs = with_short ns (literal_value bs)
token_short ns (kinds.Word w) bs = omega arith
token_short ns (kinds.Number n) bs = omega arith
token_short ns (kinds.Symbol s) bs = omega arith

pub numbering_goes : (old : List (List ℕ)) (text : List ℕ) (all left : List Token) (t : Token) (table new : List (List ℕ)) (found more : List Lexeme) (l : Lexeme) → Numbering old text all (t ∷ left) table found
    → new ≡ with_token table t.kind (bytes_of text t) → TokenThere new t.kind (bytes_of text t) → l ≡ lexeme_of new text t → more ≡ found ++ l ∷ [] → Numbering old text all left new more
numbering_goes old text all left t table new found more l n e h i j =
    let g = token_grown table t.kind (bytes_of text t) in
    let same : new ≡ table ++ g.0 = e ∙ g.1 in record {
      front = n.front ++ t ∷ [];
      split = n.split ∙ sym (append_assoc n.front (t ∷ []) left);
      lexemes = j ∙ (ap (λ y. y ++ l ∷ []) (n.lexemes ∙ sym (subst (λ y. lexemes_of y text n.front ≡ lexemes_of table text n.front) (sym same) (lexemes_stable table g.0 text n.front n.there)))
          ∙ (ap (λ y. lexemes_of new text n.front ++ y ∷ []) i ∙ sym (lexemes_push new text n.front t)));
      there = all_push new text n.front t (subst (λ y. AllThere y text n.front) (sym same) (all_more table g.0 text n.front n.there)) h;
      names = n.names ∙ ap (λ y. with_tokens y text left) (sym e);
      grown = (n.grown.0 ++ g.0, same ∙ (ap (λ y. y ++ g.0) n.grown.1 ∙ append_assoc old n.grown.0 g.0));
      short = subst (λ y. length y ≤ length old + length (n.front ++ t ∷ [])) (sym e) (omega (arith, token_short table t.kind (bytes_of text t), n.short, length-append n.front (t ∷ [])));
    }

pub number_is : (old new : List (List ℕ)) (n : List ℕ) (i : ℕ) → i ≡ place_of old n → new ≡ with_name old n → i ≡ place_of new n
number_is old new n i e d = e ∙ (name_place old n ∙ ap (λ t. place_of t n) (sym d))

pub number_there : (old new : List (List ℕ)) (n : List ℕ) → new ≡ with_name old n → is_there new n ≡ true
number_there old new n d = subst (λ t. is_there t n ≡ true) (sym d) (name_there old n)

pub numbering_room : (old : List (List ℕ)) (text : List ℕ) (all left : List Token) (table : List (List ℕ)) (found : List Lexeme) → Numbering old text all left table found → length table ≤ length old + length all
numbering_room old text all left table found n =
    let d : length all ≡ length (n.front ++ left) = ap (λ x. length x) n.split in omega (arith, n.short, length-append n.front left)

pub grown_then : (old table new : List (List ℕ)) (k : TokenKind) (bs : List ℕ) → Grown old table → new ≡ with_token table k bs → Grown old new
grown_then old table new k bs g e =
    let h = token_grown table k bs in (g.0 ++ h.0, e ∙ (h.1 ∙ (ap (λ t. t ++ h.0) g.1 ∙ append_assoc old g.0 h.0)))

pub lexemes_length : (table : List (List ℕ)) (text : List ℕ) (ts : List Token) → length (lexemes_of table text ts) ≡ length ts
lexemes_length table text [] = refl
lexemes_length table text (t ∷ ts) = ap (λ n. suc n) (lexemes_length table text ts)

-- the token that stands for none
abbrev pub no_token : Token
no_token = record { kind = kinds.Name; start = 0; end = 0 }

-- one more token is numbered
pub numbering_step : (old : List (List ℕ)) (text : List ℕ) (list slice : List Token) (from k : ℕ) (table new : List (List ℕ)) (found more : List Lexeme) (bs : List ℕ) (mk : Mark)
    → Numbering old text (drop from list) (drop k list) table found → slice ≡ list → k < length list → ((t : Token) → slice_get list k ≡ Some t → bs ≡ bytes_of text t)
    → new ≡ with_token table (get_or slice k no_token).kind bs → TokenThere new (get_or slice k no_token).kind bs → mk ≡ mark_of new (get_or slice k no_token).kind bs
    → more ≡ found ++ record { mark = mk; at = (get_or slice k no_token).start } ∷ [] → Numbering old text (drop from list) (drop (k + 1) list) new more
numbering_step old text list slice from k table new found more bs mk n s l b e h i j =
    go (get_or slice k no_token) (ap (λ y. get_or y k no_token) s) e h i j where
      go : (t : Token) → t ≡ get_or list k no_token → new ≡ with_token table t.kind bs → TokenThere new t.kind bs → mk ≡ mark_of new t.kind bs → more ≡ found ++ record { mark = mk; at = t.start } ∷ []
          → Numbering old text (drop from list) (drop (k + 1) list) new more
      go t w e h i j =
          let g : slice_get list k ≡ Some t = slice_get-get_or list k no_token l ∙ ap (λ x. Some x) (sym w) in
          let bytes : bs ≡ bytes_of text t = b t g in
          let left : drop k list ≡ t ∷ drop (k + 1) list = drop_more list k no_token l ∙ ap (λ x. x ∷ drop (k + 1) list) (sym w) in
          numbering_goes old text (drop from list) (drop (k + 1) list) t table new found more (record { mark = mk; at = t.start }) (subst (λ y. Numbering old text (drop from list) y table found) left n)
          (subst (λ y. new ≡ with_token table t.kind y) bytes e) (subst (λ y. TokenThere new t.kind y) bytes h) (ap (λ y. record { mark = y; at = t.start }) (subst (λ y. mk ≡ mark_of new t.kind y) bytes i)) j
